use Rattle.std.proofs.Common.{◌≡◌}
use Rattle.cy_tools.specs.private.Keeping.{kept_from}
use Rattle.cy_tools.proofs.kept.Kept.next_from.Given as goal

abbrev pub invariant-loop-next : goal.invariant-loop-next
invariant-loop-next l = kept_from l.self l.place ≡ kept_from l.self l.next
