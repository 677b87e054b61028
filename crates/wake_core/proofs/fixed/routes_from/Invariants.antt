use Rattle.std.proofs.Common.{◌≡◌, take}
use Rattle.wake_core.specs.Run.{routes_of}
use Rattle.wake_core.proofs.fixed.routes_from.Given as goal

-- Those of the components so far.
abbrev pub invariant-loop-plan : goal.invariant-loop-plan
invariant-loop-plan l = record { so_far : l.routes.items ≡ take l.plan-index (routes_of l.fn.plans) }
