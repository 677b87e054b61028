use Rattle.std.proofs.Common.{Result, sym, ap, ◌∙◌}
use Rattle.std.proofs.lemmas.Result.{err_from_is_err_and}
use Rattle.cy_wire.specs.Field.{seen}
use Rattle.cy_wire.specs.Message.{seen_span}
use Rattle.cy_section.specs.declared.error.SectionError.{SectionError}
use Rattle.cy_section.specs.Reading.{PlacedMessage, messages_of, and_those_behind}
use Rattle.cy_section.proofs.Bodies.{messages_of-other, messages_of-message, messages_of-end, messages_of-fault}
use Rattle.cy_section.proofs.body.MessageReader.next_message.Goals as goal

pub returns-in_err-field : goal.returns-in_err-field
returns-in_err-field c =
    let p = err_from_is_err_and c.from_residual.result c.from_residual.ensures.1 in
    rw (p.1, p.2) (sym c.loop-field.invariant ∙ ap messages_of c.in_err-field.ensures.field.0 ∙ messages_of-fault c.in_err-field.field-0.0)

pub returns-in_err-message_of : goal.returns-in_err-message_of
returns-in_err-message_of c =
    let p = err_from_is_err_and c.from_residual-in_err-message_of.result c.from_residual-in_err-message_of.ensures.1 in
    let left = rw c.in-Some.is at c.in_ok-field.ensures.field in
    rw (p.1, p.2) (sym c.loop-field.invariant ∙ ap messages_of left
    ∙ messages_of-message (seen c.in-Some.field) c.next_field.new.self (seen_span c.in-Some-span.span) (sym c.in-Some-span.ensures)
    ∙ ap (λ (r : Result PlacedMessage SectionError). and_those_behind r (messages_of c.next_field.new.self)) c.in_err-message_of.ensures)

pub returns-in-Some-span : goal.returns-in-Some-span
returns-in-Some-span c =
    let left = rw c.in-Some.is at c.in_ok-field.ensures.field in
    sym c.loop-field.invariant ∙ ap messages_of left
    ∙ messages_of-message (seen c.in-Some.field) c.next_field.new.self (seen_span c.in-Some-span.span) (sym c.in-Some-span.ensures)
    ∙ ap (λ (r : Result PlacedMessage SectionError). and_those_behind r (messages_of c.next_field.new.self)) c.in_ok-message_of.ensures

pub loop-field-preserved : goal.loop-field-preserved
loop-field-preserved c =
    let left = rw c.in-Some.is at c.in_ok-field.ensures.field in
    sym (messages_of-other (seen c.in-Some.field) c.next_field.new.self (sym c.in_default-span.ensures)) ∙ sym (ap messages_of left) ∙ c.loop-field.invariant

pub returns : goal.returns
returns c =
    let ended = rw c.in_default.is at c.in_ok-field.ensures.field in
    sym c.loop-field.invariant ∙ ap messages_of ended.0 ∙ messages_of-end
