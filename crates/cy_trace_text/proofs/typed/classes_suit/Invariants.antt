use Rattle.std.proofs.Common.{◌≡◌, ◌<◌, ℕ, Some, slice_get}
use Rattle.cy_comp.specs.declared.plan.Plan.{Plan}
use Rattle.cy_trace_text.proofs.StepSuits.{GivenSuit}
use Rattle.cy_trace_text.proofs.typed.classes_suit.Given as goal

abbrev pub invariant-loop-plan : goal.invariant-loop-plan
invariant-loop-plan l = (n : ℕ) (p : Plan) → n < l.plan-index → slice_get l.plans n ≡ Some p → GivenSuit p.kind
