use Rattle.std.proofs.Common.{◌≡◌, subst, Some, slice_get, ◌∙◌, ◌<◌, ap, length, map, sum, List, ℕ, arith}
use Rattle.wake_core.specs.Run.{Route, route_of, routes_of}
use Rattle.wake_core.specs.Planned.{planned_count}
use Rattle.wake_core.proofs.Counting.{sum_added, plan_at, route_at}
use Rattle.wake_core.proofs.entries.planned_arrivals.Goals as goal

pub planned_at-sum-requires-clause-few : goal.planned_at-sum-requires-clause-few
planned_at-sum-requires-clause-few c =
    let plans = c.args.wiring.now.plans in
    let within : c.loop-plan.plan-index < length c.as_slice-plan-items.result.now = omega (arith, c.loop-plan-test.true) in
    let at = plan_at plans c.as_slice-plan-items.result.now c.loop-plan.plan-index c.plan-item.result c.as_slice-plan-items.ensures within c.plan-item.is in
    let few = c.args.wiring.now.lawful.few_readers c.loop-plan.plan-index c.plan-item.result at in
    let is : length c.as_slice.result.now ≡ length c.plan-item.result.readers = ap length c.as_slice.ensures in
    omega (arith, is, few)

pub planned_at-sum-requires-clause-known : goal.planned_at-sum-requires-clause-known
planned_at-sum-requires-clause-known c = λ j r e.
    let plans = c.args.wiring.now.plans in
    let within : c.loop-plan.plan-index < length c.as_slice-plan-items.result.now = omega (arith, c.loop-plan-test.true) in
    let at = plan_at plans c.as_slice-plan-items.result.now c.loop-plan.plan-index c.plan-item.result c.as_slice-plan-items.ensures within c.plan-item.is in
    let named = c.args.wiring.now.lawful.readers_named c.loop-plan.plan-index c.plan-item.result at j r (subst (λ (rs : List ℕ). slice_get rs j ≡ Some r) c.as_slice.ensures e) in
    omega (arith, named, c.requires)

pub loop-plan-preserved : goal.loop-plan-preserved
loop-plan-preserved c =
    let plans = c.args.wiring.now.plans in
    let counted = planned_count (routes_of plans) c.args.counts.now in
    let within : c.loop-plan.plan-index < length c.as_slice-plan-items.result.now = omega (arith, c.loop-plan-test.true) in
    let at = route_at plans c.loop-plan.plan-index c.plan-item.result (plan_at plans c.as_slice-plan-items.result.now c.loop-plan.plan-index c.plan-item.result c.as_slice-plan-items.ensures within c.plan-item.is) in
    record {
      sums = sum_added (λ (x : Route). sum (map counted x.readers)) (routes_of plans) c.loop-plan.plan-index (route_of c.plan-item.result) c.loop-plan.sum c.planned_at-sum.result at
          (c.planned_at-sum.ensures.sum ∙ ap (λ (rs : List ℕ). sum (map counted rs)) c.as_slice.ensures) c.loop-plan.invariant.sums;
      most = omega (arith, c.loop-plan.invariant.most, c.planned_at-sum.ensures.most);
    }
