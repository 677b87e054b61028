use Rattle.std.proofs.Common.{◌≡◌, None}
use Rattle.cy_wiring.specs.Triggers.{ticks_at}
use Rattle.cy_dag.specs.DagFile.{first_found}
use Rattle.cy_wiring.proofs.triggers.test_ticks.Given as goal

abbrev pub invariant-loop-component : goal.invariant-loop-component
invariant-loop-component l = first_found (ticks_at l.components l.configs) l.component ≡ None
