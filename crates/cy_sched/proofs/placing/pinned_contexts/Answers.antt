use Rattle.std.proofs.Common.{List, ℕ, true, map, ap, sym, ◌∙◌}
use Rattle.cy_sched.specs.Placing.{numbers_below, pinned_head}
use Rattle.cy_sched.proofs.Contexts.{numbers_more, pinned_long, pushed_heads, pushed_orders}
use Rattle.cy_sched.proofs.placing.pinned_contexts.Goals as goal

pub loop-processor-preserved : goal.loop-processor-preserved
loop-processor-preserved c =
    let n = c.loop-processor.processor-counter in
    let heads = map pinned_head (numbers_below n) in
    let name = c.from_string.ensures ∙ c.in_ok-format.ensures.ok in
    record {
      heads = pushed_heads c.loop-processor.contexts.items c.push.new.self.items heads _ (pinned_head n) c.loop-processor.invariant.heads (ap (λ (x : List ℕ). (x, true, 1)) name) c.in_ok-push.ensures.items
          ∙ sym (numbers_more n);
      orders = pushed_orders c.args.homes.now c.loop-processor.contexts.items c.push.new.self.items heads _ n c.loop-processor.invariant.heads (pinned_long n) c.loop-processor.invariant.orders
          (rw c.new.ensures c.in_ok-order.ensures) c.in_ok-push.ensures.items;
    }
