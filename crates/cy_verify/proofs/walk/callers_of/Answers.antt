use Rattle.std.proofs.Common.{◌∙◌, ◌++◌, ◌∷◌, [], sym, ap, arith, map, take, option_map, List}
use Rattle.std.proofs.lemmas.Option.{slice_get-map}
use Rattle.cy_msg.proofs.Lists.{take_next}
use Rattle.cy_comp.specs.Routine.{RoutineView, new_routine}
use Rattle.cy_comp.specs.declared.plan.Plan.{Plan}
use Rattle.wake_core.specs.declared.entries.TheConstants.{MOST_PLANNED}
use Rattle.cy_verify.proofs.Heard.{there_is}
use Rattle.cy_verify.proofs.walk.callers_of.Goals as goal

abbrev first : Plan → RoutineView
first p = new_routine p.kind MOST_PLANNED

pub loop-plan-preserved : goal.loop-plan-preserved
loop-plan-preserved c =
    let plans = c.args.plans.now in
    let p = c.plan-item.result in
    let at = there_is plans c.loop-plan.plan-index p (omega (arith, c.loop-plan-test.true)) c.plan-item.is in
    c.in_ok-push.ensures.items ∙ ap (λ (rs : List RoutineView). rs ++ c.in_ok-new.field-0 ∷ []) c.loop-plan.invariant
    ∙ ap (λ (r : RoutineView). take c.loop-plan.plan-index (map first plans) ++ r ∷ []) c.in_ok-new.ensures
    ∙ sym (take_next (map first plans) c.loop-plan.plan-index (first p) (slice_get-map first plans c.loop-plan.plan-index ∙ ap (option_map first) at))
