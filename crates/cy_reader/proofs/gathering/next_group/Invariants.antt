use Rattle.std.proofs.Common.{◌≡◌, ◌++◌, length}
use Rattle.std.specs.Vec.Iter.{into_iter_items}
use Rattle.cy_reader.proofs.gathering.next_group.Given as goal

-- The group so far, and the sections that are left.
abbrev pub invariant-loop-part : goal.invariant-loop-part
invariant-loop-part l = into_iter_items l.fn.left ≡ l.group.items ++ into_iter_items l.left

abbrev pub decreases-loop-part : goal.decreases-loop-part
decreases-loop-part l = length (into_iter_items l.left)
