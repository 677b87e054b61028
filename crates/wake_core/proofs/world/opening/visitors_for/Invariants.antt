use Rattle.std.proofs.Common.{◌≡◌, map, take}
use Rattle.wake_core.specs.Run.{routes_of}
use Rattle.wake_core.specs.private.Opening.{first_visitor}
use Rattle.wake_core.proofs.world.opening.visitors_for.Given as goal

-- Those of the components so far.
abbrev pub invariant-loop-plan : goal.invariant-loop-plan
invariant-loop-plan l = record {
  so_far : l.visitors.items ≡ take l.plan-index (map (first_visitor (routes_of l.fn.wiring.plans) l.fn.counts) (routes_of l.fn.wiring.plans));
}
