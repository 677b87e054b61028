use Rattle.std.proofs.Common.{◌≡◌, ◌≤◌, take, length, vec_capacity}
use Rattle.cy_run.specs.Running.{IsCrew, plans_of, posts_from}
use Rattle.cy_run.proofs.run.crew_of.Given as goal

abbrev pub invariant-loop-plan : goal.invariant-loop-plan
invariant-loop-plan l = IsCrew l.table (length l.plans) l.threads l.initial.player l.player l.crew.items
    × (l.threads ≤ vec_capacity l.crew) × (plans_of l.crew.items ≡ take l.threads (posts_from 0 (take l.plan l.plans)))
