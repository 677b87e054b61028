-- The messages of fields, one field after another.
use Rattle.std.proofs.Common.{◌≡◌, ℕ, List, [], ◌∷◌, ◌++◌, refl, sym, ap, ◌∙◌, append_assoc, Option, Some, None}
use Rattle.std.specs.Prelude.{unwrap_or}
use Rattle.std.specs.Option.{option_map, option_or}
use Rattle.cy_wire.specs.declared.error.WireError.{WireError}
use Rattle.cy_wire.specs.declared.field.Span.{Span}
use Rattle.cy_wire.specs.Field.{WireField, Fields, no_fields, faulty, with_field}
use Rattle.cy_wire.specs.Message.{WireSpan, seen_span, span_in, number_in, last_span, last_number, span_of, u64_of}
use Rattle.cy_wire.proofs.Lasts.{last_span-more, last_number-more}
use Rattle.cy_section.specs.Reading.{fault_of, PlacedMessage, Messages, no_message, with_message, and_those_behind, message_at, messages_of}

pub messages_of-other : (field : WireField) (rest : Fields) → span_in 1 field ≡ None → messages_of (with_field field rest) ≡ messages_of rest
unfolding messages_of
messages_of-other field rest e = rw e refl

pub messages_of-message : (field : WireField) (rest : Fields) (span : WireSpan) → span_in 1 field ≡ Some span
    → messages_of (with_field field rest) ≡ and_those_behind (message_at span) (messages_of rest)
unfolding messages_of
messages_of-message field rest span e = rw e refl

pub messages_of-end : messages_of no_fields ≡ no_message None
unfolding messages_of
messages_of-end = refl

pub messages_of-fault : (fault : WireError) → messages_of (faulty fault) ≡ no_message (Some (fault_of fault))
unfolding messages_of
messages_of-fault fault = refl

-- the last bytes, seen without where they lie
pub seen_or : (new old : Option Span) → option_map seen_span (option_or new old) ≡ option_or (option_map seen_span new) (option_map seen_span old)
seen_or None old = refl
seen_or (Some x) old = refl

pub ruleset spans = (seen_or)

pub last_span-taken : (n : ℕ) (front : List WireField) (field : WireField) (old : Option WireSpan) → old ≡ last_span n front → (new : Option WireSpan) → new ≡ option_or (span_in n field) old
    → new ≡ last_span n (front ++ field ∷ [])
last_span-taken n front field old so_far new is = is ∙ ap (option_or (span_in n field)) so_far ∙ sym (last_span-more n front field)

or_given : {A : Type 0} (new old : Option A) (given : A) → unwrap_or (option_or new old) given ≡ unwrap_or new (unwrap_or old given)
or_given None old given = refl
or_given (Some x) old given = refl

-- the bytes of a field, and its number, when one more is read
pub span_of-taken : (n : ℕ) (front : List WireField) (field : WireField) (old : WireSpan) → old ≡ span_of n front → (new : WireSpan) → new ≡ unwrap_or (span_in n field) old
    → new ≡ span_of n (front ++ field ∷ [])
span_of-taken n front field old so_far new is =
    is ∙ ap (unwrap_or (span_in n field)) so_far
    ∙ sym (ap (λ (o : Option WireSpan). unwrap_or o record { start = 0; bytes = [] }) (last_span-more n front field) ∙ or_given (span_in n field) (last_span n front) record { start = 0; bytes = [] })

pub u64_of-taken : (n : ℕ) (front : List WireField) (field : WireField) (old : ℕ) → old ≡ u64_of n front → (new : ℕ) → new ≡ unwrap_or (number_in n field) old
    → new ≡ u64_of n (front ++ field ∷ [])
u64_of-taken n front field old so_far new is =
    is ∙ ap (unwrap_or (number_in n field)) so_far
    ∙ sym (ap (λ (o : Option ℕ). unwrap_or o 0) (last_number-more n front field) ∙ or_given (number_in n field) (last_number n front) 0)

-- one more message is read
pub message_read : (front : List PlacedMessage) (left next all : Messages) (message : PlacedMessage) → front ++ left.messages ≡ all.messages
    → left ≡ with_message message next → (front ++ message ∷ []) ++ next.messages ≡ all.messages
message_read front left next all message so_far e =
    append_assoc front (message ∷ []) next.messages ∙ ap (λ (l : Messages). front ++ l.messages) (sym e) ∙ so_far
