use Rattle.std.proofs.Common.{◌≡◌}
use Rattle.cy_sched.specs.Placing.{group_home, last_found}
use Rattle.cy_sched.proofs.homes.classic_home.Given as goal

abbrev pub invariant-loop-place : goal.invariant-loop-place
invariant-loop-place l = l.home ≡ last_found (group_home l.groups l.name) l.place
