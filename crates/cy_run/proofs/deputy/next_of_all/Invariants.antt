use Rattle.cy_table.specs.Calls.{Stays}
use Rattle.cy_run.specs.Passes.{IsFree}
use Rattle.cy_run.proofs.deputy.next_of_all.Given as goal

abbrev pub invariant-loop-context : goal.invariant-loop-context
invariant-loop-context l = Stays l.table l.initial.pass l.pass × IsFree l.table l.pass
