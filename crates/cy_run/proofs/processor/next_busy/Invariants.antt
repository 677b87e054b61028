use Rattle.cy_table.specs.Calls.{Stays}
use Rattle.cy_run.specs.Passes.{IsFree}
use Rattle.cy_run.proofs.processor.next_busy.Given as goal

abbrev pub invariant-loop-component : goal.invariant-loop-component
invariant-loop-component l = Stays l.table l.initial.pass l.pass × IsFree l.table l.pass
