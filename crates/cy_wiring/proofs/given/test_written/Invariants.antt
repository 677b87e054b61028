use Rattle.std.proofs.Common.{◌≡◌, None}
use Rattle.cy_wiring.specs.Given.{written}
use Rattle.cy_dag.specs.DagFile.{first_found}
use Rattle.cy_wiring.specs.private.Pairs.{pair_of}
use Rattle.cy_dag.proofs.LoopSteps.{refused}
use Rattle.cy_wiring.proofs.given.test_written.Given as goal

abbrev pub invariant-loop-value : goal.invariant-loop-value
invariant-loop-value l = first_found (refused pair_of (λ place. written l.components l.configs) l.given) l.value-index ≡ None
