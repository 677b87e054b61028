use Rattle.std.proofs.Common.{◌≡◌, map, take}
use Rattle.cy_sched.specs.Placing.{HaveOrders, group_head, head_of}
use Rattle.cy_sched.proofs.placing.group_contexts.Given as goal

abbrev pub invariant-loop-place : goal.invariant-loop-place
invariant-loop-place l = record {
  heads : map head_of l.contexts.items ≡ map group_head (take l.place l.groups);
  orders : HaveOrders l.homes l.contexts.items;
}
