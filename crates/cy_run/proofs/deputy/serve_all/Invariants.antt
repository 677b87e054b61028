use Rattle.cy_run.specs.Passes.{IsFree}
use Rattle.cy_run.proofs.deputy.serve_all.Given as goal

abbrev pub invariant-loop : goal.invariant-loop
invariant-loop g l =
    (goal.iterator-loop g).can_next l.iterator' × (goal.iterator-loop g).is_finite l.iterator'
    × IsFree l.table l.pass
