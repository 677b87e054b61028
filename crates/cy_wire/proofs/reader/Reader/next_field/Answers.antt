use Rattle.std.proofs.Common.{refl, ◌∙◌, sym, ◌<◌, ◌≡◌, length, arith}
use Rattle.std.proofs.lemmas.Grind.{common_steps}
use Rattle.std.proofs.lemmas.Result.{err_from_is_err_and}
use Rattle.cy_wire.specs.Field.{seen}
use Rattle.cy_wire.proofs.Taken.{fields_of-taken, fields_of-fault, fields_of-end}
use Rattle.cy_wire.proofs.reader.Reader.next_field.Goals as goal

pub returns-then-is_empty-clause-field : goal.returns-then-is_empty-clause-field
returns-then-is_empty-clause-field c =
    let none : length c.self.inside.bytes.now ≡ 0 = grind (arith, common_steps) in
    (sym c.self.view_is ∙ fields_of-end c.self.inside.at c.self.inside.bytes.now none, refl)

pub returns-in_err-field-clause-field : goal.returns-in_err-field-clause-field
returns-in_err-field-clause-field c =
    let p = err_from_is_err_and c.from_residual.result c.from_residual.ensures.1 in
    let some : 0 < length c.self.inside.bytes.now = grind (arith, common_steps) in
    rw (p.1, p.2) (sym c.self.view_is ∙ fields_of-fault c.self.inside.at c.self.inside.bytes.now c.in_err-field.field-0.0 some c.in_err-field.ensures.field, refl)

pub returns-clause-field : goal.returns-clause-field
returns-clause-field c =
    let some : 0 < length c.self.inside.bytes.now = grind (arith, common_steps) in
    sym c.self.view_is ∙ fields_of-taken c.self.inside.at c.self.inside.bytes.now (seen c.in_ok-field.field, c.in_ok-field.taken) some c.in_ok-field.ensures.field
