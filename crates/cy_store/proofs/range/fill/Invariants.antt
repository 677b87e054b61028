use Rattle.std.proofs.Common.{◌-◌, length}
use Rattle.cy_store.proofs.ReadFront.{IsReadTo}
use Rattle.cy_store.proofs.range.fill.Given as goal

abbrev pub invariant-loop-read : goal.invariant-loop-read
invariant-loop-read g l = IsReadTo l.name l.at l.filled l.buffer (g.S.Store.shows l.fn.store) (g.S.Store.shows l.store)

abbrev pub decreases-loop-read : goal.decreases-loop-read
decreases-loop-read g l = length l.buffer - l.filled
