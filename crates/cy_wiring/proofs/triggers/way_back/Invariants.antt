use Rattle.std.proofs.Common.{◌≡◌, None}
use Rattle.cy_wiring.specs.Triggers.{after, back_at}
use Rattle.cy_dag.specs.DagFile.{first_found}
use Rattle.cy_wiring.proofs.triggers.way_back.Given as goal

abbrev pub invariant-loop-step : goal.invariant-loop-step
invariant-loop-step l = record {
  here : l.at ≡ after l.triggers l.step l.start;
  away : first_found (back_at l.triggers l.start) l.step ≡ None;
}
