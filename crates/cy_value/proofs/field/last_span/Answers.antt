use Rattle.std.proofs.Common.{List, ◌++◌, [], ◌∷◌, refl, sym, ◌∙◌, None, Ok, ap, Option}
use Rattle.std.specs.List.{filter_map, last_or}
use Rattle.std.proofs.lemmas.Result.{err_from_is_err_and}
use Rattle.cy_wire.specs.Field.{WireField, seen, fields_of}
use Rattle.cy_wire.specs.Message.{WireSpan, span_in}
use Rattle.cy_wire.proofs.Lasts.{none_before, one_more, read_all, read_fault, fewer}
use Rattle.cy_value.specs.Value.{read_last}
use Rattle.cy_value.proofs.LastHeld.{last-more, option_map-or}
use Rattle.cy_value.proofs.field.last_span.Goals as goal

pub loop-field-init : goal.loop-field-init
loop-field-init c =
    ([], rw c.new-reader.ensures (none_before (fields_of 0 c.args.content.now)), refl)

pub returns-in_err-field : goal.returns-in_err-field
unfolding read_last
returns-in_err-field c =
    let p = err_from_is_err_and c.from_residual.result c.from_residual.ensures.1 in
    let all = fields_of 0 c.args.content.now in
    let so_far = c.loop-field.invariant in
    let last = last_or None (filter_map (span_in c.args.number) all.fields) in
    let faulty = c.in_err-field.ensures.field.0 in
    rw (p.1, p.2) (read_fault last so_far.0 c.loop-field.reader all _ so_far.1 faulty)

pub loop-field-smaller : goal.loop-field-smaller
loop-field-smaller c = fewer _ _ _ (rw c.in-Some.is at c.in_ok-field.ensures.field)

pub loop-field-preserved : goal.loop-field-preserved
loop-field-preserved c =
    let so_far = c.loop-field.invariant in
    let front = so_far.0 in
    let field = seen c.in-Some.field in
    let taken = rw c.in-Some.is at c.in_ok-field.ensures.field in (
      front ++ field ∷ [],
      one_more front c.loop-field.reader c.next_field.new.self _ field so_far.1 taken,
      rw (c.or-last.ensures, option_map-or, c.span.ensures, so_far.2)
          (sym (last-more (span_in c.args.number) front field _ refl)),
    )

pub returns : goal.returns
unfolding read_last
returns c =
    let all = fields_of 0 c.args.content.now in
    let ended = rw c.in_default.is at c.in_ok-field.ensures.field in
    let so_far = c.loop-field.invariant in
    let last : List WireField → Option WireSpan
    = λ fields. last_or None (filter_map (span_in c.args.number) fields) in
    read_all last so_far.0 c.loop-field.reader all so_far.1 ended.0
    ∙ ap (λ (o : Option WireSpan). Ok o) (sym so_far.2)
