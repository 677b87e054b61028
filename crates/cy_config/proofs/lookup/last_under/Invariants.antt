use Rattle.std.proofs.Common.{◌≡◌, option_map, take}
use Rattle.cy_text.specs.Entries.{fields_of, held_of}
use Rattle.cy_config.specs.Lookups.{last_under}
use Rattle.cy_config.proofs.lookup.last_under.Given as goal

abbrev pub invariant-loop-entry : goal.invariant-loop-entry
invariant-loop-entry l = record {
  last : option_map (λ v. held_of v.now) l.last ≡ last_under l.name (fields_of (take l.entry-index l.entry-items));
  shown : fields_of l.entry-items ≡ l.tree;
}
