-- What is written of a section is read of it.
use Rattle.std.proofs.Common.{◌≡◌, ℕ, ◌+◌, ◌-◌, ◌^◌, ◌<◌, ◌≤◌, List, [], ◌∷◌, ◌++◌, length, refl, ap, ◌∙◌, arith, append_assoc, append-nil, lit≤, Ok, Some, None, Result}
use Rattle.cy_wire.specs.Wire.{field_u64, field_bytes}
use Rattle.cy_wire.specs.Field.{WireField, Fields, Varint, Bytes, with_field, no_fields, fields_of}
use Rattle.cy_wire.specs.Laws.{IsFieldNumber}
use Rattle.cy_wire.specs.Message.{WireSpan, number_in, span_in, last_number, last_span}
use Rattle.cy_wire.proofs.FieldsBack.{fields_of-number, fields_of-bytes}
use Rattle.cy_wire.proofs.Taken.{fields_of-end}
use Rattle.cy_section.specs.declared.types.Channel.{Channel}
use Rattle.std.specs.List.{AllByRecursion}
use Rattle.std.specs.Prelude.{map}
use Rattle.std.proofs.lemmas.List.Concat.{flat_map-cons}
use Rattle.cy_section.specs.declared.error.SectionError.{SectionError}
use Rattle.cy_section.specs.declared.types.BodyMessage.{BodyMessage}
use Rattle.cy_section.proofs.Bodies.{messages_of-message, messages_of-end}
use Rattle.cy_section.specs.Section.{message_field, chunk_body, channel_body}
use Rattle.cy_section.specs.Reading.{channel_at, channel_in, made_of, PlacedMessage, Messages, message_at, message_in, messages_of, no_message, with_message, and_those_behind, chunk_body_at}
use Rattle.cy_read_back.specs.Sections.{ChannelFits, MessageFits, message_bytes}
use Rattle.cy_section.proofs.Texts.{text_of-text}

-- a low field's number
low_number : (n : ℕ) → 1 ≤ n → n ≤ 200 → IsFieldNumber n
low_number n low high = record { low = low; high = omega arith }

-- a field in front of others
pub number_then : (at n v : ℕ) (rest : List ℕ) (fields : Fields) → 1 ≤ n → n ≤ 200 → v < 2 ^ 64 → fields_of (at + length (field_u64 n v)) rest ≡ fields
    → fields_of at (field_u64 n v ++ rest) ≡ with_field (record { number = n; at = at; value = Varint v }) fields
number_then at n v rest fields low high fits e = fields_of-number at n v rest (low_number n low high) fits ∙ ap (with_field (record { number = n; at = at; value = Varint v })) e

pub bytes_then : (at n : ℕ) (bytes rest : List ℕ) (fields : Fields) → 1 ≤ n → n ≤ 200 → length bytes < 2 ^ 64 → fields_of (at + length (field_bytes n bytes)) rest ≡ fields
    → fields_of at (field_bytes n bytes ++ rest) ≡ with_field (record { number = n; at = at; value = Bytes (at + (length (field_bytes n bytes) - length bytes)) bytes }) fields
bytes_then at n bytes rest fields low high fits e = fields_of-bytes at n bytes rest (low_number n low high) fits ∙ ap (with_field _) e

pub nothing_then : (at : ℕ) → fields_of at [] ≡ no_fields
nothing_then at = fields_of-end at [] refl

pub channel_at-body : (at : ℕ) (c : Channel) → ChannelFits c → channel_at at (channel_body c) ≡ Ok c
unfolding channel_at channel_in channel_body last_span span_in
channel_at-body at c fits =
    let a = field_bytes 1 c.name in
    let b = field_bytes 2 c.message_type in
    let d = field_bytes 3 c.proto_desc in
    let at2 = at + length a in
    let at3 = at2 + length b in
    let name : WireSpan = record { start = at + (length a - length c.name); bytes = c.name } in
    let type : WireSpan = record { start = at2 + (length b - length c.message_type); bytes = c.message_type } in
    let grouped : (a ++ b) ++ d ≡ a ++ (b ++ (d ++ [])) = simp (append_assoc, append-nil) in
    let read = bytes_then at 1 c.name (b ++ (d ++ [])) _ (lit≤ tt) (lit≤ tt) fits.name
    (bytes_then at2 2 c.message_type (d ++ []) _ (lit≤ tt) (lit≤ tt) fits.message_type
    (bytes_then at3 3 c.proto_desc [] _ (lit≤ tt) (lit≤ tt) fits.proto_desc (nothing_then (at3 + length d)))) in
    ap (λ (bytes : List ℕ). made_of (channel_in 1) (fields_of at bytes)) grouped ∙ ap (made_of (channel_in 1)) read
    ∙ rw (text_of-text name fits.name_is_text, text_of-text type fits.type_is_text) refl

-- a message, and the messages of a body
message_at-written : (start : ℕ) (m : BodyMessage) → MessageFits m
    → (placed : PlacedMessage) × (message_at (record { start = start; bytes = message_bytes m }) ≡ Ok placed) × (placed.message ≡ m)
unfolding message_at message_in last_number number_in last_span span_in
message_at-written start m fits =
    let a = field_bytes 1 m.channel_name in
    let b = field_u64 2 m.time in
    let d = field_bytes 3 m.content in
    let at2 = start + length a in
    let at3 = at2 + length b in
    let name : WireSpan = record { start = start + (length a - length m.channel_name); bytes = m.channel_name } in
    let placed : PlacedMessage = record { message = m; content_at = at3 + (length d - length m.content) } in
    let grouped : (a ++ b) ++ d ≡ a ++ (b ++ (d ++ [])) = simp (append_assoc, append-nil) in
    let read = bytes_then start 1 m.channel_name (b ++ (d ++ [])) _ (lit≤ tt) (lit≤ tt) fits.name
    (number_then at2 2 m.time (d ++ []) _ (lit≤ tt) (lit≤ tt) fits.time
    (bytes_then at3 3 m.content [] _ (lit≤ tt) (lit≤ tt) fits.content (nothing_then (at3 + length d)))) in (
      placed,
      ap (λ (bytes : List ℕ). made_of message_in (fields_of start bytes)) grouped ∙ ap (made_of message_in) read ∙ rw (text_of-text name fits.name_is_text) refl,
      refl,
    )

pub message_field-is : (m : BodyMessage) → message_field m ≡ field_bytes 1 (message_bytes m)
unfolding message_field
message_field-is m = refl

pub span_is : (at : ℕ) (span : WireSpan) → span_in 1 (record { number = 1; at = at; value = Bytes span.start span.bytes }) ≡ Some span
unfolding span_in
span_is at span = refl

pub chunk_body_read : (at : ℕ) (ms : List BodyMessage) → AllByRecursion MessageFits ms
    → let all = messages_of (fields_of at (chunk_body ms)) in (all.fault ≡ None) × (map (λ m. m.message) all.messages ≡ ms)
chunk_body_read at [] fits =
    let all : messages_of (fields_of at []) ≡ no_message None = ap messages_of (nothing_then at) ∙ messages_of-end in
    (ap (λ (m : Messages). m.fault) all, ap (λ (m : Messages). map (λ p. p.message) m.messages) all)
chunk_body_read at (m ∷ ms) fits =
    let inner = message_bytes m in
    let size = length (field_bytes 1 inner) in
    let rest = fields_of (at + size) (chunk_body ms) in
    let span : WireSpan = record { start = at + (size - length inner); bytes = inner } in
    let field : WireField = record { number = 1; at = at; value = Bytes (at + (size - length inner)) inner } in
    let one = message_at-written (at + (size - length inner)) m fits.0 in
    let more = chunk_body_read (at + size) ms fits.1 in
    let split : chunk_body (m ∷ ms) ≡ field_bytes 1 inner ++ chunk_body ms = flat_map-cons message_field m ms ∙ ap (λ (x : List ℕ). x ++ chunk_body ms) (message_field-is m) in
    let all : messages_of (fields_of at (chunk_body (m ∷ ms))) ≡ with_message one.0 (messages_of rest) =
    ap (λ (x : List ℕ). messages_of (fields_of at x)) split
    ∙ ap messages_of (bytes_then at 1 inner (chunk_body ms) rest (lit≤ tt) (lit≤ tt) fits.0.whole refl)
    ∙ messages_of-message field rest span (span_is at span)
    ∙ ap (λ (r : Result PlacedMessage SectionError). and_those_behind r (messages_of rest)) one.1 in (
      ap (λ (x : Messages). x.fault) all ∙ more.0,
      ap (λ (x : Messages). map (λ p. p.message) x.messages) all ∙ ap (λ (x : BodyMessage). x ∷ map (λ p. p.message) (messages_of rest).messages) one.2 ∙ ap (λ (xs : List BodyMessage). m ∷ xs) more.1,
    )

pub chunk_body_at-body : (at : ℕ) (ms : List BodyMessage) → AllByRecursion MessageFits ms → chunk_body_at at (chunk_body ms) ≡ Ok ms
unfolding chunk_body_at
chunk_body_at-body at ms fits =
    let read = chunk_body_read at ms fits in
    rw (read.0, read.1) refl
