use Rattle.std.proofs.Common.{List, ℕ, ◌≡◌, None, map, take}
use Rattle.cy_wiring.specs.Given.{differs, first_given}
use Rattle.cy_dag.specs.DagFile.{first_found}
use Rattle.cy_wiring.specs.private.Pairs.{first_kept, pair_of}
use Rattle.cy_dag.proofs.LoopSteps.{refused}
use Rattle.cy_wiring.proofs.given.test_same.Given as goal

abbrev pub invariant-loop-value : goal.invariant-loop-value
invariant-loop-value l = record {
  kept : (channel : List ℕ) → first_kept l.firsts channel ≡ first_given (map pair_of (take l.value-index l.given)) channel;
  accepted : first_found (refused pair_of (λ place. differs (map pair_of l.given)) l.given) l.value-index ≡ None;
}
