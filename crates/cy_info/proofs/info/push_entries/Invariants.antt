use Rattle.std.proofs.Common.{◌≡◌, ◌++◌, take}
use Rattle.cy_info.specs.Info.{numbered}
use Rattle.cy_info.specs.private.Facts.{placed_line}
use Rattle.cy_info.proofs.info.push_entries.Given as goal

abbrev pub invariant-loop-number : goal.invariant-loop-number
invariant-loop-number l = l.to.items ≡ l.fn.to.items ++ numbered (placed_line l.places) 0 (take l.number l.entries)
