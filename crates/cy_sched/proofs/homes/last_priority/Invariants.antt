use Rattle.std.proofs.Common.{◌≡◌}
use Rattle.cy_sched.specs.Placing.{task_priority, last_found}
use Rattle.cy_sched.proofs.homes.last_priority.Given as goal

abbrev pub invariant-loop-task : goal.invariant-loop-task
invariant-loop-task l = l.priority ≡ last_found (task_priority l.tasks l.name) l.task-index
