use Rattle.std.proofs.Common.{List, ℕ, false, map, take, ap, sym, ◌∙◌}
use Rattle.cy_sched.specs.Placing.{group_head}
use Rattle.cy_sched.proofs.Contexts.{groups_long, groups_more, pushed_heads, pushed_orders}
use Rattle.cy_sched.proofs.placing.group_contexts.Goals as goal

pub loop-place-preserved : goal.loop-place-preserved
loop-place-preserved c =
    let g = c.index-groups-place.result in
    let groups = c.args.groups.now in
    let i = c.loop-place.place in
    let heads = map group_head (take i groups) in
    let name = c.in_ok-new.ensures.copy ∙ c.as_str.ensures.value in
    record {
      heads = pushed_heads c.loop-place.contexts.items c.push.new.self.items heads _ (group_head g) c.loop-place.invariant.heads (ap (λ (n : List ℕ). (n, false, g.processors)) name) c.in_ok-push.ensures.items
          ∙ sym (groups_more groups i g c.loop-place-test.true c.index-groups-place.is);
      orders = pushed_orders c.args.homes.now c.loop-place.contexts.items c.push.new.self.items heads _ i c.loop-place.invariant.heads (groups_long groups i c.loop-place-test.true)
          c.loop-place.invariant.orders (rw c.new-in-loop-place.ensures c.in_ok-order.ensures) c.in_ok-push.ensures.items;
    }
