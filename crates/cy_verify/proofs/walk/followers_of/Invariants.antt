use Rattle.std.specs.Vec.Iter.{into_iter_items}
use Rattle.cy_verify.proofs.FollowersMade.{AreMade}
use Rattle.cy_verify.proofs.walk.followers_of.Given as goal

abbrev pub invariant-loop-visitor : goal.invariant-loop-visitor
invariant-loop-visitor l = AreMade l.fn.visitors.items (into_iter_items l.visitor-iterator) l.fn.routines.items (into_iter_items l.rest) l.followers.items
