use Rattle.std.proofs.Common.{◌≡◌, ◌<◌, ◌++◌, ◌∷◌, [], ◌∙◌, sym, ap, length, take, map, List, arith}
use Rattle.cy_msg.proofs.Lists.{take_next}
use Rattle.cy_comp.specs.Routine.{RoutineView}
use Rattle.wake_core.specs.Run.{route_of, routes_of}
use Rattle.wake_core.specs.private.Opening.{first_routine}
use Rattle.wake_core.proofs.Counting.{plan_at, route_at}
use Rattle.wake_core.proofs.Beginning.{routine_is, made_at}
use Rattle.wake_core.proofs.world.opening.routines_for.Goals as goal

pub bounds-as_slice-0 : goal.bounds-as_slice-0
bounds-as_slice-0 c =
    let plans = c.args.wiring.now.plans in
    let within : c.loop-plan.plan-index < length c.as_slice-plan-items.result.now = omega (arith, c.loop-plan-test.true) in
    let at = plan_at plans c.as_slice-plan-items.result.now c.loop-plan.plan-index c.plan-item.result c.as_slice-plan-items.ensures within c.plan-item.is in
    let some = c.args.wiring.now.lawful.some_reader c.loop-plan.plan-index c.plan-item.result at in
    let is : length c.as_slice-in-loop-plan.result.now ≡ length c.plan-item.result.readers = ap length c.as_slice-in-loop-plan.ensures in
    omega (arith, is, some)

pub loop-plan-preserved : goal.loop-plan-preserved
loop-plan-preserved c =
    let plans = c.args.wiring.now.plans in
    let routes = routes_of plans in
    let p = c.plan-item.result in
    let f = first_routine routes c.args.counts.now in
    let within : c.loop-plan.plan-index < length c.as_slice-plan-items.result.now = omega (arith, c.loop-plan-test.true) in
    let at = route_at plans c.loop-plan.plan-index p (plan_at plans c.as_slice-plan-items.result.now c.loop-plan.plan-index p c.as_slice-plan-items.ensures within c.plan-item.is) in
    let is = c.in_ok-new.ensures ∙ routine_is routes c.args.counts.now p c.as_slice-in-loop-plan.result.now c.planned_on-spare.result c.as_slice-in-loop-plan.ensures c.planned_on-spare.ensures in
    record {
      so_far = c.in_ok-push.ensures.items ∙ ap (λ (rs : List RoutineView). rs ++ c.in_ok-new.field-0 ∷ []) c.loop-plan.invariant.so_far ∙ ap (λ (r : RoutineView). take c.loop-plan.plan-index (map f routes) ++ r ∷ []) is
          ∙ sym (take_next (map f routes) c.loop-plan.plan-index (f (route_of p)) (made_at f routes c.loop-plan.plan-index (route_of p) at));
    }
