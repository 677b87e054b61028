use Rattle.std.proofs.Common.{◌≡◌, ◌<◌, ◌++◌, ◌∷◌, [], ◌∙◌, sym, ap, length, take, List, ℕ, refl, arith}
use Rattle.cy_msg.proofs.Lists.{take_next}
use Rattle.cy_comp.specs.declared.kind.Kind.{Kind}
use Rattle.wake_core.specs.Run.{Route, route_of, routes_of}
use Rattle.wake_core.proofs.Counting.{plan_at, route_at}
use Rattle.wake_core.proofs.fixed.routes_from.Goals as goal

pub loop-plan-preserved : goal.loop-plan-preserved
loop-plan-preserved c =
    let routes = routes_of c.args.plans.now in
    let p = c.plan-item.result in
    let within : c.loop-plan.plan-index < length c.args.plans.now = omega (arith, c.loop-plan-test.true) in
    let at = route_at c.args.plans.now c.loop-plan.plan-index p (plan_at c.args.plans.now c.args.plans.now c.loop-plan.plan-index p refl within c.plan-item.is) in
    let one : Route = record { kind = c.in_ok-copy.field-0; readers = c.new.result; queue = p.queue; overflow = p.overflow; out = p.out } in
    let is : one ≡ route_of p = ap (λ (k : Kind). record { kind = k; readers = c.new.result; queue = p.queue; overflow = p.overflow; out = p.out }) c.in_ok-copy.ensures
    ∙ ap (λ (rs : List ℕ). record { kind = p.kind; readers = rs; queue = p.queue; overflow = p.overflow; out = p.out }) (c.new.ensures ∙ c.in_ok-from_slice.ensures.items ∙ c.as_slice.ensures) in
    record {
      so_far = c.in_ok-push.ensures.items ∙ ap (λ (rs : List Route). rs ++ one ∷ []) c.loop-plan.invariant.so_far ∙ ap (λ (x : Route). take c.loop-plan.plan-index routes ++ x ∷ []) is
          ∙ sym (take_next routes c.loop-plan.plan-index (route_of p) at);
    }
