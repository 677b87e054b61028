use Rattle.std.proofs.Common.{◌≡◌, length}
use Rattle.cy_wire.specs.Field.{fields_of}
use Rattle.cy_section.specs.Reading.{entries_of}
use Rattle.cy_section.proofs.Indexes.{behind}
use Rattle.cy_section.proofs.entries.entries_of.Given as goal

abbrev pub invariant-loop-entries : goal.invariant-loop-entries
invariant-loop-entries l = behind l.entries.items (entries_of l.reader) ≡ entries_of (fields_of l.at l.body)

abbrev pub decreases-loop-entries : goal.decreases-loop-entries
decreases-loop-entries l = length l.reader.fields
