-- The lengths of fields and sections.
use Rattle.std.proofs.Common.{◌≡◌, ℕ, ◌+◌, ◌*◌, ◌-◌, ◌/◌, ◌^◌, ◌≤◌, ◌<◌, List, [], ◌∷◌, ◌++◌, ◌∙◌, sym, length, take, drop, replicate, arith, refl, ap, length-append, lit≤, lit<, le_trans}
use Rattle.std.proofs.lemmas.List.{length-drop, length-replicate, drop-replicate, take_all, flat_map_more}
use Rattle.cy_wire.specs.Wire.{varint_bytes, field_u64, field_bytes}
use Rattle.cy_wire.proofs.Varints.{varint_bytes-small, varint_bytes-large, length-varint_bytes}
use Rattle.cy_section.specs.Rows.{numbered, numbers_body, header_rows}
use Rattle.cy_section.specs.Section.{section, head_bytes, header_body, header_section, message_field, chunk_body}
use Rattle.cy_section.specs.declared.types.SectionKind.{SectionKind}
use Rattle.cy_section.specs.declared.types.SectionKind.TheVariants as kind
use Rattle.cy_section.specs.declared.types.Header.{Header}
use Rattle.cy_section.specs.declared.types.BodyMessage.{BodyMessage}

-- a section is its body and 16 bytes
pub length-section : (k : SectionKind) (body : List ℕ) → length (section k body) ≡ 16 + length body
unfolding section
length-section k body = omega arith

-- a head written over the 16 bytes in front of a body makes a section
pub section_over : (k : SectionKind) (start : ℕ) (old head new : List ℕ) → head ≡ head_bytes k (length old - start - 16)
    → new ≡ take start old ++ (head ++ drop (start + length head) old) → new ≡ take start old ++ section k (drop (start + 16) old)
unfolding section
section_over k start old head new is_head e =
    let size : length old - start - 16 ≡ length (drop (start + 16) old) = omega (arith, length-drop (start + 16) old) in
    let sixteen : length head ≡ 16 = rw is_head (omega arith) in
    e ∙ rw (sixteen, is_head, size) refl

-- a tag of a low field is one byte
pub length-tag : (tag : ℕ) → tag < 128 → length (varint_bytes tag) ≡ 1
length-tag tag low = rw (varint_bytes-small tag low) refl

-- a low field with a number has at most 11 bytes
pub length-field_u64 : (number value : ℕ) → number ≤ 15 → length (field_u64 number value) ≤ 11
length-field_u64 number value low =
    simp length-append (omega (arith, length-tag (8 * number) (omega arith), length-varint_bytes value))

-- a low field with bytes has at most 11 bytes more than they
pub length-field_bytes : (number : ℕ) (bytes : List ℕ) → number ≤ 15 → length (field_bytes number bytes) ≤ length bytes + 11
length-field_bytes number bytes low =
    simp length-append (omega (arith, length-tag (8 * number + 2) (omega arith), length-varint_bytes (length bytes)))

-- a number from 128 on takes a byte more than its 128th part
pub length-varint_bytes-large : (n : ℕ) → 128 ≤ n → n < 2 ^ 64 → length (varint_bytes n) ≡ length (varint_bytes (n / 128)) + 1
length-varint_bytes-large n large fits = rw (varint_bytes-large n large fits) (omega arith)

-- a low number as its own byte, for `using`
pub ruleset small_varints = (varint_bytes-small, length-tag)

-- the steps of counting the bytes of a number, for `using`
pub ruleset varint_lengths = (length-tag, length-varint_bytes-large, length-varint_bytes)

-- the fields of numbers have at most 20 bytes each
pub length-numbers_body : (fields : List (ℕ × ℕ)) → length (numbers_body fields) ≤ 20 * length fields
length-numbers_body [] = lit≤ tt
length-numbers_body (f ∷ fields) =
    omega (
      arith,
      length-append (field_u64 f.0 f.1) (numbers_body fields),
      length-append (varint_bytes (8 * f.0)) (varint_bytes f.1),
      length-varint_bytes (8 * f.0),
      length-varint_bytes f.1,
      length-numbers_body fields,
    )

-- those of a header leave room for its head
pub length-header_body : (h : Header) → length (header_body h) ≤ 2048
unfolding header_body header_rows
length-header_body h = le_trans (length-numbers_body (numbered (header_rows h))) (lit≤ tt)

-- a header's section has 2064 bytes
pub length-header_section : (h : Header) → length (header_section h) ≡ 2064
unfolding header_section
length-header_section h =
    simp (length-append, length-section, length-replicate) (omega (arith, length-header_body h))

-- what fills a header's section up
pub header_section-filled : (h : Header) (front : List ℕ) → front ≡ section kind.Header (header_body h)
    → front ++ replicate (2064 - length front) 0 ≡ header_section h
unfolding header_section
header_section-filled h front e =
    rw (e, length-section) (ap (λ n. section kind.Header (header_body h) ++ replicate n 0) (omega arith))

-- and there is room for it
pub header_section-fits : (h : Header) (front : List ℕ) → front ≡ section kind.Header (header_body h) → length front ≤ 2064
header_section-fits h front e = rw e (omega (arith, length-section kind.Header (header_body h), length-header_body h))

-- both, for `using`
pub ruleset header_fits = (header_section-filled, header_section-fits, length-header_section)

-- the zeros past a place
pub rest_of_zeros : (n : ℕ) → take {A = ℕ} (2064 - n) (drop n (replicate 2064 0)) ≡ replicate (2064 - n) 0
rest_of_zeros n =
    ap (take (2064 - n)) (drop-replicate n 2064 0)
    ∙ take_all (2064 - n) (replicate (2064 - n) 0) (omega (arith, length-replicate {A = ℕ} (2064 - n) 0))

-- a part of zeros, for `using`
pub ruleset zeros = (drop-replicate, length-append, length-replicate)

-- what the fields of a message take
pub length-message_fields : (name : List ℕ) (time : ℕ) (content : List ℕ)
    → length (field_bytes 1 name ++ field_u64 2 time ++ field_bytes 3 content)
    ≡ 1 + length (varint_bytes (length name)) + length name + (1 + length (varint_bytes time))
    + (1 + length (varint_bytes (length content)) + length content)
length-message_fields name time content =
    simp length-append (omega (arith, length-tag 10 (lit< tt), length-tag 16 (lit< tt), length-tag 26 (lit< tt)))

-- and that it fits, for `using`
pub ruleset message_fields = (length-message_fields, length-varint_bytes)

-- and what they take where the lengths are small, for `using`
pub ruleset short_fields = (length-message_fields, length-tag, length-varint_bytes)

-- a message's field is a tag, the length of its fields, and they
pub length-of-message_field : (m : BodyMessage) → length (message_field m)
    ≡ 1 + length (varint_bytes (length (field_bytes 1 m.channel_name ++ field_u64 2 m.time ++ field_bytes 3 m.content)))
    + length (field_bytes 1 m.channel_name ++ field_u64 2 m.time ++ field_bytes 3 m.content)
unfolding message_field
length-of-message_field m = simp length-append (omega (arith, length-tag 10 (lit< tt)))

-- and that it fits, for `using`
pub ruleset message_sizes = (length-of-message_field, length-message_fields, length-varint_bytes)

-- a message's field has at most 64 bytes more than its name and its content
pub length-message_field : (m : BodyMessage) → length (message_field m) ≤ length m.channel_name + length m.content + 64
unfolding message_field
length-message_field m =
    let inner = field_bytes 1 m.channel_name ++ field_u64 2 m.time ++ field_bytes 3 m.content in
    let parts : length inner ≤ length m.channel_name + length m.content + 33 = omega (
      arith,
      length-append (field_bytes 1 m.channel_name ++ field_u64 2 m.time) (field_bytes 3 m.content),
      length-append (field_bytes 1 m.channel_name) (field_u64 2 m.time),
      length-field_bytes 1 m.channel_name (lit≤ tt),
      length-field_u64 2 m.time (lit≤ tt),
      length-field_bytes 3 m.content (lit≤ tt),
    ) in
    omega (arith, parts, length-field_bytes 1 inner (lit≤ tt))

-- a further message makes a chunk's body longer by its field
pub length-chunk_body-more : (messages : List BodyMessage) (m : BodyMessage)
    → length (chunk_body (messages ++ m ∷ [])) ≡ length (chunk_body messages) + length (message_field m)
length-chunk_body-more messages m =
    ap length (sym (flat_map_more message_field [] messages m)) ∙ length-append (chunk_body messages) (message_field m)
