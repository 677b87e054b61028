use Rattle.std.proofs.Common.{◌≡◌, ◌+◌, ◌++◌, replicate, vec_len, vec_capacity}
use Rattle.cy_run.specs.Running.{IsCrew, plans_of}
use Rattle.cy_run.proofs.run.add_workers.Given as goal

abbrev pub invariant-loop : goal.invariant-loop
invariant-loop l = IsCrew l.table l.contexts l.threads l.initial.player l.player l.crew.items
    × (vec_len l.crew ≡ vec_len l.initial.crew + l.counter) × (vec_capacity l.crew ≡ vec_capacity l.initial.crew)
    × (plans_of l.crew.items ≡ plans_of l.initial.crew.items ++ replicate l.counter l.plan)
