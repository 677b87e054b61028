use Rattle.std.proofs.Common.{◌≡◌, ◌++◌, take}
use Rattle.cy_info.specs.Info.{numbered}
use Rattle.cy_info.specs.private.Facts.{counted_line}
use Rattle.cy_info.proofs.info.push_channels.Given as goal

abbrev pub invariant-loop-number : goal.invariant-loop-number
invariant-loop-number l = l.to.items ≡ l.fn.to.items ++ numbered (counted_line l.counts) 0 (take l.number l.channels)
