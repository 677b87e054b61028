use Rattle.std.proofs.Common.{List, ℕ, Option, ◌++◌, [], ◌∷◌, refl, sym, None}
use Rattle.std.specs.List.{filter_map, last_or}
use Rattle.std.proofs.lemmas.Result.{err_from_is_err_and}
use Rattle.cy_wire.specs.Field.{WireField, seen, fields_of}
use Rattle.cy_wire.proofs.Lasts.{none_before, one_more, read_all, read_fault, fewer}
use Rattle.cy_value.specs.Value.{bits_under, read_last}
use Rattle.cy_value.proofs.LastHeld.{last-more}
use Rattle.cy_value.proofs.field.last_bits.Goals as goal

pub loop-field-init : goal.loop-field-init
loop-field-init c =
    ([], rw c.new-reader.ensures (none_before (fields_of 0 c.args.content.now)), refl)

pub returns-in_err-field : goal.returns-in_err-field
unfolding read_last
returns-in_err-field c =
    let p = err_from_is_err_and c.from_residual.result c.from_residual.ensures.1 in
    let all = fields_of 0 c.args.content.now in
    let so_far = c.loop-field.invariant in
    let last = last_or None (filter_map (bits_under c.args.number c.args.kind) all.fields) in
    let faulty = c.in_err-field.ensures.field.0 in
    rw (p.1, p.2) (sym (read_fault last so_far.0 c.loop-field.reader all _ so_far.1 faulty))

pub loop-field-smaller : goal.loop-field-smaller
loop-field-smaller c = fewer _ _ _ (rw c.in-Some.is at c.in_ok-field.ensures.field)

pub loop-field-preserved : goal.loop-field-preserved
loop-field-preserved c =
    let so_far = c.loop-field.invariant in
    let front = so_far.0 in
    let field = seen c.in-Some.field in
    let taken = rw c.in-Some.is at c.in_ok-field.ensures.field in
    let held : WireField → Option ℕ = bits_under c.args.number c.args.kind in (
      front ++ field ∷ [],
      one_more front c.loop-field.reader c.next_field.new.self _ field so_far.1 taken,
      rw (c.or-last.ensures, c.bits_under.ensures, so_far.2)
          (sym (last-more held front field _ refl)),
    )

pub returns : goal.returns
unfolding read_last
returns c =
    let all = fields_of 0 c.args.content.now in
    let ended = rw c.in_default.is at c.in_ok-field.ensures.field in
    let so_far = c.loop-field.invariant in
    let last : List WireField → Option ℕ
    = λ fields. last_or None (filter_map (bits_under c.args.number c.args.kind) fields) in
    rw so_far.2 (sym (read_all last so_far.0 c.loop-field.reader all so_far.1 ended.0))
