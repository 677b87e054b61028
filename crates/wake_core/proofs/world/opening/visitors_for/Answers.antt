use Rattle.std.proofs.Common.{◌≡◌, ◌<◌, subst, Some, slice_get, ◌++◌, ◌∷◌, [], ◌∙◌, sym, ap, length, take, map, sum, List, ℕ, arith}
use Rattle.cy_msg.proofs.Lists.{take_next}
use Rattle.cy_fuse.specs.Visitor.{VisitorView}
use Rattle.wake_core.specs.declared.entries.TheConstants.{MOST_PLANNED}
use Rattle.wake_core.specs.Run.{route_of, routes_of}
use Rattle.wake_core.specs.Planned.{planned_count}
use Rattle.wake_core.specs.private.Opening.{first_visitor}
use Rattle.wake_core.proofs.Counting.{plan_at, route_at}
use Rattle.wake_core.proofs.Beginning.{visitor_is, arrivals_limit, made_at}
use Rattle.wake_core.proofs.world.opening.visitors_for.Goals as goal

pub bounds-readers-0 : goal.bounds-readers-0
bounds-readers-0 c =
    let plans = c.args.wiring.now.plans in
    let within : c.loop-plan.plan-index < length c.as_slice-plan-items.result.now = omega (arith, c.loop-plan-test.true) in
    let at = plan_at plans c.as_slice-plan-items.result.now c.loop-plan.plan-index c.plan-item.result c.as_slice-plan-items.ensures within c.plan-item.is in
    let some = c.args.wiring.now.lawful.some_reader c.loop-plan.plan-index c.plan-item.result at in
    let is : length c.as_slice-readers.result.now ≡ length c.plan-item.result.readers = ap length c.as_slice-readers.ensures in
    omega (arith, is, some)

pub planned_at-spare-requires-clause-few : goal.planned_at-spare-requires-clause-few
planned_at-spare-requires-clause-few c =
    let plans = c.args.wiring.now.plans in
    let within : c.loop-plan.plan-index < length c.as_slice-plan-items.result.now = omega (arith, c.loop-plan-test.true) in
    let at = plan_at plans c.as_slice-plan-items.result.now c.loop-plan.plan-index c.plan-item.result c.as_slice-plan-items.ensures within c.plan-item.is in
    let few = c.args.wiring.now.lawful.few_readers c.loop-plan.plan-index c.plan-item.result at in
    let is : length c.as_slice-readers.result.now ≡ length c.plan-item.result.readers = ap length c.as_slice-readers.ensures in
    omega (arith, is, few)

pub planned_at-spare-requires-clause-known : goal.planned_at-spare-requires-clause-known
planned_at-spare-requires-clause-known c = λ j r e.
    let plans = c.args.wiring.now.plans in
    let within : c.loop-plan.plan-index < length c.as_slice-plan-items.result.now = omega (arith, c.loop-plan-test.true) in
    let at = plan_at plans c.as_slice-plan-items.result.now c.loop-plan.plan-index c.plan-item.result c.as_slice-plan-items.ensures within c.plan-item.is in
    let named = c.args.wiring.now.lawful.readers_named c.loop-plan.plan-index c.plan-item.result at j r (subst (λ (rs : List ℕ). slice_get rs j ≡ Some r) c.as_slice-readers.ensures e) in
    omega (arith, named, c.requires.counts)

pub overflow_cast-spare : goal.overflow_cast-spare
overflow_cast-spare c =
    let plans = c.args.wiring.now.plans in
    let within : c.loop-plan.plan-index < length c.as_slice-plan-items.result.now = omega (arith, c.loop-plan-test.true) in
    let at = route_at plans c.loop-plan.plan-index c.plan-item.result (plan_at plans c.as_slice-plan-items.result.now c.loop-plan.plan-index c.plan-item.result c.as_slice-plan-items.ensures within c.plan-item.is) in
    let counted = planned_count (routes_of plans) c.args.counts.now in
    let is : c.planned_at-spare.result ≡ sum (map counted c.plan-item.result.readers) = c.planned_at-spare.ensures.sum ∙ ap (λ (rs : List ℕ). sum (map counted rs)) c.as_slice-readers.ensures in
    let most = arrivals_limit (routes_of plans) c.args.counts.now c.loop-plan.plan-index MOST_PLANNED (route_of c.plan-item.result) at c.requires.limited in
    record { fits = omega (arith, is, most) }

pub overflow_cast-roles : goal.overflow_cast-roles
overflow_cast-roles c =
    let plans = c.args.wiring.now.plans in
    let within : c.loop-plan.plan-index < length c.as_slice-plan-items.result.now = omega (arith, c.loop-plan-test.true) in
    let at = plan_at plans c.as_slice-plan-items.result.now c.loop-plan.plan-index c.plan-item.result c.as_slice-plan-items.ensures within c.plan-item.is in
    let few = c.args.wiring.now.lawful.few_readers c.loop-plan.plan-index c.plan-item.result at in
    let is : length c.as_slice-readers.result.now ≡ length c.plan-item.result.readers = ap length c.as_slice-readers.ensures in
    record { fits = omega (arith, is, few) }

pub prepare-requires-clause-roles : goal.prepare-requires-clause-roles
prepare-requires-clause-roles c =
    let plans = c.args.wiring.now.plans in
    let within : c.loop-plan.plan-index < length c.as_slice-plan-items.result.now = omega (arith, c.loop-plan-test.true) in
    let at = plan_at plans c.as_slice-plan-items.result.now c.loop-plan.plan-index c.plan-item.result c.as_slice-plan-items.ensures within c.plan-item.is in
    let few = c.args.wiring.now.lawful.few_readers c.loop-plan.plan-index c.plan-item.result at in
    let some = c.args.wiring.now.lawful.some_reader c.loop-plan.plan-index c.plan-item.result at in
    let is : length c.as_slice-readers.result.now ≡ length c.plan-item.result.readers = ap length c.as_slice-readers.ensures in
    (omega (arith, is, some), omega (arith, is, few))

pub loop-plan-preserved : goal.loop-plan-preserved
loop-plan-preserved c =
    let plans = c.args.wiring.now.plans in
    let routes = routes_of plans in
    let p = c.plan-item.result in
    let f = first_visitor routes c.args.counts.now in
    let within : c.loop-plan.plan-index < length c.as_slice-plan-items.result.now = omega (arith, c.loop-plan-test.true) in
    let at = route_at plans c.loop-plan.plan-index p (plan_at plans c.as_slice-plan-items.result.now c.loop-plan.plan-index p c.as_slice-plan-items.ensures within c.plan-item.is) in
    let is = c.in_ok-prepare.ensures ∙ visitor_is routes c.args.counts.now p c.as_slice-readers.result.now c.kept_of-queue.result c.planned_on.result c.planned_at-spare.result
    c.as_slice-readers.ensures c.planned_on.ensures c.kept_of-queue.ensures.kept c.planned_at-spare.ensures.sum in
    record {
      so_far = c.in_ok-push.ensures.items ∙ ap (λ (vs : List VisitorView). vs ++ c.in_ok-prepare.field-0 ∷ []) c.loop-plan.invariant.so_far ∙ ap (λ (v : VisitorView). take c.loop-plan.plan-index (map f routes) ++ v ∷ []) is
          ∙ sym (take_next (map f routes) c.loop-plan.plan-index (f (route_of p)) (made_at f routes c.loop-plan.plan-index (route_of p) at));
    }
