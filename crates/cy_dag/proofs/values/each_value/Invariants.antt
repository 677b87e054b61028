use Rattle.std.proofs.Common.{◌≡◌, None, map, take}
use Rattle.cy_dag.specs.DagFile.{first_found}
use Rattle.cy_dag.specs.Values.{channel_value, refusal_at}
use Rattle.cy_dag.proofs.values.each_value.Given as goal

abbrev pub invariant-loop-place : goal.invariant-loop-place
invariant-loop-place l = record {
  made : l.values.items ≡ map channel_value (map (λ m. m.now) (take l.place l.given));
  accepted : first_found (refusal_at l.component (map (λ m. m.now) l.given)) l.place ≡ None;
}
