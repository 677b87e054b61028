use Rattle.std.proofs.Common.{◌≡◌, take}
use Rattle.cy_section.specs.Rows.{numbers_body}
use Rattle.cy_section.proofs.put.number_fields.Given as goal

abbrev pub invariant-loop-number : goal.invariant-loop-number
invariant-loop-number l = l.body ≡ numbers_body (take l.number-index l.fields)
