use Rattle.std.proofs.Common.{ℕ, ◌≡◌, ◌++◌, List, length, take, Some, None}
use Rattle.cy_text.specs.Fields.{size_of}
use Rattle.cy_text.specs.Entries.{fields_of}
use Rattle.cy_config.specs.declared.field.Field.{Field}
use Rattle.cy_config.specs.Lookups.{all_under}
use Rattle.cy_config.specs.private.Tallies.{times_of}
use Rattle.cy_config.specs.Checks.{first_misfit, unknown_paths}
use Rattle.cy_config.proofs.checks.+check_fields.Given as goal

abbrev pub decreases-check_fields : goal.decreases-check_fields
decreases-check_fields g l = size_of l.tree.now

abbrev pub invariant-loop-entry : goal.invariant-loop-entry
invariant-loop-entry g l = record {
  fits : first_misfit g.M.Described.field l.message l.path (fields_of (take l.entry-index l.entry-items)) ≡ None;
  unknown : l.unknown.items ≡ l.fn.unknown.items ++ unknown_paths g.M.Described.field l.message l.path (fields_of (take l.entry-index l.entry-items));
  counted : (name : List ℕ) (f : Field g.row.M.Denot) → g.M.Described.field l.message name ≡ Some f
      → times_of l.tally.met.items name ≡ length (all_under name (fields_of (take l.entry-index l.entry-items)));
  shown : fields_of l.entry-items ≡ l.tree;
}
