use Rattle.std.proofs.Common.{◌≡◌, ◌∙◌, ◌<◌, ap, length, slice_index, List, ℕ, arith}
use Rattle.wake_core.specs.Run.{Route, route_of, routes_of}
use Rattle.wake_core.specs.Planned.{planned_count, first_reader}
use Rattle.wake_core.proofs.Counting.{sum_added, plan_at, route_at}
use Rattle.wake_core.proofs.entries.planned_calls.Goals as goal

pub bounds-as_slice-0 : goal.bounds-as_slice-0
bounds-as_slice-0 c =
    let plans = c.args.wiring.now.plans in
    let within : c.loop-plan.plan-index < length c.as_slice-plan-items.result.now = omega (arith, c.loop-plan-test.true) in
    let at = plan_at plans c.as_slice-plan-items.result.now c.loop-plan.plan-index c.plan-item.result c.as_slice-plan-items.ensures within c.plan-item.is in
    let some = c.args.wiring.now.lawful.some_reader c.loop-plan.plan-index c.plan-item.result at in
    let is : length c.as_slice.result.now ≡ length c.plan-item.result.readers = ap length c.as_slice.ensures in
    omega (arith, is, some)

pub loop-plan-preserved : goal.loop-plan-preserved
loop-plan-preserved c =
    let plans = c.args.wiring.now.plans in
    let counted = planned_count (routes_of plans) c.args.counts.now in
    let within : c.loop-plan.plan-index < length c.as_slice-plan-items.result.now = omega (arith, c.loop-plan-test.true) in
    let at = route_at plans c.loop-plan.plan-index c.plan-item.result (plan_at plans c.as_slice-plan-items.result.now c.loop-plan.plan-index c.plan-item.result c.as_slice-plan-items.ensures within c.plan-item.is) in
    record {
      sums = sum_added (λ (x : Route). counted (first_reader x)) (routes_of plans) c.loop-plan.plan-index (route_of c.plan-item.result) c.loop-plan.sum c.from-sum.result at
          (c.from-sum.ensures ∙ c.planned_on.ensures ∙ ap (λ (rs : List ℕ). counted (slice_index rs 0)) c.as_slice.ensures) c.loop-plan.invariant.sums;
      most = omega (arith, c.loop-plan.invariant.most, c.planned_on.type_inv, c.from-sum.ensures);
    }
