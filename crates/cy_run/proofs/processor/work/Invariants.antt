use Rattle.cy_table.specs.Calls.{Stays}
use Rattle.cy_run.specs.Passes.{IsFree}
use Rattle.cy_run.proofs.processor.work.Given as goal

abbrev pub invariant-loop : goal.invariant-loop
invariant-loop g l =
    (goal.iterator-loop g).can_next l.iterator' × (goal.iterator-loop g).is_finite l.iterator'
    × Stays l.table l.initial.pass l.pass × IsFree l.table l.pass
