use Rattle.std.proofs.Common.{◌≡◌, map, take}
use Rattle.cy_comp.specs.Routine.{new_routine}
use Rattle.cy_comp.specs.declared.plan.Plan.{Plan}
use Rattle.wake_core.specs.declared.entries.TheConstants.{MOST_PLANNED}
use Rattle.cy_verify.proofs.walk.callers_of.Given as goal

-- Those of the components so far.
abbrev pub invariant-loop-plan : goal.invariant-loop-plan
invariant-loop-plan l = l.callers.items ≡ take l.plan-index (map (λ (p : Plan). new_routine p.kind MOST_PLANNED) l.plans)
