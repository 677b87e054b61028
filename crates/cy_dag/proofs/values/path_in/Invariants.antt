use Rattle.std.proofs.Common.{◌≡◌, map, take, codes, unwrap_or}
use Rattle.cy_text.specs.Entries.{held_of}
use Rattle.cy_config.specs.Lookups.{all_under}
use Rattle.cy_dag.specs.Values.{field_number}
use Rattle.cy_dag.proofs.values.path_in.Given as goal

abbrev pub invariant-loop-value : goal.invariant-loop-value
invariant-loop-value l = record {
  made : l.path.items ≡ map (λ v. unwrap_or (field_number (held_of v)) 0) (map (λ m. m.now) (take l.value-index l.value-items));
  shown : map (λ m. held_of m.now) l.value-items ≡ all_under (codes "path") l.fields;
}
