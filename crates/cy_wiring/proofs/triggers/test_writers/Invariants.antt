use Rattle.std.proofs.Common.{◌≡◌, None}
use Rattle.cy_wiring.specs.Triggers.{writers_at}
use Rattle.cy_dag.specs.DagFile.{first_found}
use Rattle.cy_wiring.proofs.triggers.test_writers.Given as goal

abbrev pub invariant-loop-second : goal.invariant-loop-second
invariant-loop-second l = first_found (writers_at l.configs) l.second ≡ None
