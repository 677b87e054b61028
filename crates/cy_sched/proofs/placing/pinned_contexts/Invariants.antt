use Rattle.std.proofs.Common.{◌≡◌, map}
use Rattle.cy_sched.specs.Placing.{HaveOrders, head_of, numbers_below, pinned_head}
use Rattle.cy_sched.proofs.placing.pinned_contexts.Given as goal

abbrev pub invariant-loop-processor : goal.invariant-loop-processor
invariant-loop-processor l = record {
  heads : map head_of l.contexts.items ≡ map pinned_head (numbers_below l.processor-counter);
  orders : HaveOrders l.homes l.contexts.items;
}
