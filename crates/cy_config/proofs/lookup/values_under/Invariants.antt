use Rattle.std.proofs.Common.{◌≡◌, map, take}
use Rattle.cy_text.specs.Entries.{fields_of, held_of}
use Rattle.cy_config.specs.Lookups.{all_under}
use Rattle.cy_config.proofs.lookup.values_under.Given as goal

abbrev pub invariant-loop-entry : goal.invariant-loop-entry
invariant-loop-entry l = record {
  found : map (λ v. held_of v.now) l.found.items ≡ all_under l.name (fields_of (take l.entry-index l.entry-items));
  shown : fields_of l.entry-items ≡ l.tree;
}
