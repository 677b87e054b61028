use Rattle.std.proofs.Common.{◌≡◌, ◌++◌, take}
use Rattle.cy_text.specs.Entries.{fields_of}
use Rattle.cy_text.specs.Printed.{fields_text}
use Rattle.cy_text.proofs.printing.+print.Given as goal

abbrev pub invariant-push_fields-loop-entry : goal.invariant-push_fields-loop-entry
invariant-push_fields-loop-entry l = record {
  text : l.out.items ≡ l.fn.out.items ++ fields_text l.fn.margin.items (fields_of (take l.entry-index l.entry-items));
  margin : l.margin.items ≡ l.fn.margin.items;
  shown : fields_of l.entry-items ≡ l.tree;
}
