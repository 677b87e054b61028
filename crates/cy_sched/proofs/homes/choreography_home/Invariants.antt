use Rattle.std.proofs.Common.{◌≡◌}
use Rattle.cy_sched.specs.Placing.{pin_home, last_found}
use Rattle.cy_sched.proofs.homes.choreography_home.Given as goal

abbrev pub invariant-loop-task : goal.invariant-loop-task
invariant-loop-task l = l.home ≡ last_found (pin_home l.processors l.tasks l.name) l.task-index
