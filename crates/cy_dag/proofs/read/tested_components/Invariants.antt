use Rattle.std.proofs.Common.{◌≡◌, map, take, drop}
use Rattle.cy_dag.specs.DagFile.{component_of, components_refusal, refusal_behind}
use Rattle.cy_dag.proofs.read.tested_components.Given as goal

abbrev pub invariant-loop-fields : goal.invariant-loop-fields
invariant-loop-fields l = record {
  made : l.components.items ≡ map component_of (map (λ m. m.now) (take l.fields-index l.found));
  behind : components_refusal (map component_of (map (λ m. m.now) l.found)) ≡ refusal_behind l.components.items (map component_of (map (λ m. m.now) (drop l.fields-index l.found)));
}
