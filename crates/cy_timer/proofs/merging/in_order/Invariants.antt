use Rattle.std.proofs.Common.{◌≡◌, ◌++◌, length}
use Rattle.cy_timer.specs.Merged.{by_time}
use Rattle.cy_timer.specs.private.Left.{left_of}
use Rattle.cy_timer.proofs.merging.in_order.Given as goal

abbrev pub invariant-loop-token : goal.invariant-loop-token
invariant-loop-token l = l.tokens.items ++ by_time (left_of l.left) ≡ by_time (left_of l.fn.left)

abbrev pub decreases-loop-token : goal.decreases-loop-token
decreases-loop-token l = length (left_of l.left)
