use Rattle.std.proofs.Common.{◌≡◌, ◌≤◌, take, length, vec_len, vec_capacity}
use Rattle.cy_run.specs.Running.{orders_of}
use Rattle.cy_run.proofs.run.contexts_of.Given as goal

abbrev pub invariant-loop-plan : goal.invariant-loop-plan
invariant-loop-plan l = (l.contexts.items ≡ orders_of (take l.plan-index l.plans)) × (vec_len l.contexts ≡ l.plan-index) × (length l.plans ≤ vec_capacity l.contexts)
