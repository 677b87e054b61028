use Rattle.std.proofs.Common.{◌≡◌, take}
use Rattle.cy_section.specs.Section.{index_body}
use Rattle.cy_section.proofs.index.index_fields.Given as goal

abbrev pub invariant-loop-entry : goal.invariant-loop-entry
invariant-loop-entry l = l.body ≡ index_body (take l.entry-index l.entries)
