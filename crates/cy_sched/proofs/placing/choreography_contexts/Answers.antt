use Rattle.std.proofs.Common.{List, ℕ, false, map, ap, codes}
use Rattle.cy_sched.specs.Placing.{numbers_below, pinned_head}
use Rattle.cy_sched.proofs.Contexts.{pinned_long, pushed_heads, pushed_orders}
use Rattle.cy_sched.proofs.placing.choreography_contexts.Goals as goal

pub returns-clause-heads : goal.returns-clause-heads
returns-clause-heads c =
    pushed_heads c.in_ok-contexts.contexts.items c.push.new.self.items (map pinned_head (numbers_below c.args.processors)) _ (codes "default_grp", false, c.args.pool) c.in_ok-contexts.ensures.heads
    (ap (λ (x : List ℕ). (x, false, c.args.pool)) c.in_ok-new.ensures.copy) c.in_ok-push.ensures.items

pub returns-clause-orders : goal.returns-clause-orders
returns-clause-orders c =
    pushed_orders c.args.homes.now c.in_ok-contexts.contexts.items c.push.new.self.items (map pinned_head (numbers_below c.args.processors)) _ c.args.processors c.in_ok-contexts.ensures.heads
    (pinned_long c.args.processors) c.in_ok-contexts.ensures.orders (rw c.new-2.ensures c.in_ok-order.ensures) c.in_ok-push.ensures.items
