-- What is written as a field is read as it.
use Rattle.std.proofs.Common.{◌≡◌, ℕ, ◌+◌, ◌-◌, ◌*◌, ◌/◌, ◌%◌, ◌^◌, ◌<◌, List, ◌++◌, length, take, drop, refl, ◌∙◌, arith, length-append, append_assoc, Ok, nat_lt, false}
use Rattle.std.proofs.lemmas.Grind.{common_steps}
use Rattle.std.proofs.lemmas.Bool.{le-ltb}
use Rattle.cy_wire.specs.Wire.{varint_bytes, field_u64, field_bytes}
use Rattle.cy_wire.specs.Field.{Varint, Bytes, with_field, wire_type, number_at, bytes_at, value_at, field_at, fields_of}
use Rattle.cy_wire.specs.Laws.{IsFieldNumber}
use Rattle.cy_wire.proofs.Varints.{some-varint_bytes}
use Rattle.cy_wire.proofs.VarintSteps.{varint_at-varint_bytes}
use Rattle.cy_wire.proofs.Taken.{fields_of-field}

-- the bytes behind a prefix
drop_prefix : (xs ys : List ℕ) → drop (length xs) (xs ++ ys) ≡ ys
drop_prefix xs ys = grind (arith, common_steps)

take_prefix : (xs ys : List ℕ) → take (length xs) (xs ++ ys) ≡ xs
take_prefix xs ys = grind (arith, common_steps)

-- the tag of a number, and that of bytes
number_type : (at number : ℕ) → IsFieldNumber number → wire_type at (8 * number) ≡ Ok 0
number_type at number is =
    let low = is.low in
    let high = is.high in
    let three : 8 * number % 8 ≡ 0 = omega arith in
    rw three (grind (arith, common_steps))

bytes_type : (at number : ℕ) → IsFieldNumber number → wire_type at (8 * number + 2) ≡ Ok 2
bytes_type at number is =
    let low = is.low in
    let high = is.high in
    let three : (8 * number + 2) % 8 ≡ 2 = omega arith in
    rw three (grind (arith, common_steps))

field_at-number : (at number value : ℕ) (rest : List ℕ) → IsFieldNumber number → value < 2 ^ 64
    → field_at at (field_u64 number value ++ rest) ≡ Ok (record { number = number; at = at; value = Varint value }, length (field_u64 number value))
unfolding field_at value_at number_at
field_at-number at number value rest is fits =
    let high = is.high in
    let tag = varint_bytes (8 * number) in
    let grouped : field_u64 number value ++ rest ≡ tag ++ (varint_bytes value ++ rest) = append_assoc tag (varint_bytes value) rest in
    let first = varint_at-varint_bytes (8 * number) at (varint_bytes value ++ rest) (omega arith) in
    let second = varint_at-varint_bytes value (at + length tag) rest fits in
    let same : 8 * number / 8 ≡ number = omega arith in
    rw (grouped, first, number_type at number is, drop_prefix tag (varint_bytes value ++ rest), second, same, length-append) refl

pub fields_of-number : (at number value : ℕ) (rest : List ℕ) → IsFieldNumber number → value < 2 ^ 64
    → fields_of at (field_u64 number value ++ rest)
    ≡ with_field (record { number = number; at = at; value = Varint value }) (fields_of (at + length (field_u64 number value)) rest)
fields_of-number at number value rest is fits =
    let some : 0 < length (field_u64 number value ++ rest) = omega (arith, some-varint_bytes (8 * number), length-append (field_u64 number value) rest, length-append (varint_bytes (8 * number)) (varint_bytes value)) in
    fields_of-field at (field_u64 number value ++ rest) _ some (field_at-number at number value rest is fits)
    ∙ rw (drop_prefix (field_u64 number value) rest) refl

-- a length and the bytes
bytes_at-back : (at : ℕ) (bytes rest : List ℕ) → length bytes < 2 ^ 64
    → bytes_at at (varint_bytes (length bytes) ++ (bytes ++ rest)) ≡ Ok (Bytes (at + length (varint_bytes (length bytes))) bytes, length (varint_bytes (length bytes)) + length bytes)
unfolding bytes_at
bytes_at-back at bytes rest fits =
    let size = varint_bytes (length bytes) in
    let there : nat_lt (length (size ++ (bytes ++ rest)) - length size) (length bytes) ≡ false =
    le-ltb _ _ (omega (arith, length-append size (bytes ++ rest), length-append bytes rest)) in
    rw (varint_at-varint_bytes (length bytes) at (bytes ++ rest) fits, there, drop_prefix size (bytes ++ rest), take_prefix bytes rest) refl

field_at-bytes : (at number : ℕ) (bytes rest : List ℕ) → IsFieldNumber number → length bytes < 2 ^ 64
    → let size = length (field_bytes number bytes) in
    field_at at (field_bytes number bytes ++ rest) ≡ Ok (record { number = number; at = at; value = Bytes (at + (size - length bytes)) bytes }, size)
unfolding field_at value_at
field_at-bytes at number bytes rest is fits =
    let high = is.high in
    let tag = varint_bytes (8 * number + 2) in
    let size = varint_bytes (length bytes) in
    let grouped : field_bytes number bytes ++ rest ≡ tag ++ (size ++ (bytes ++ rest)) = append_assoc (tag ++ size) bytes rest ∙ append_assoc tag size (bytes ++ rest) in
    let first = varint_at-varint_bytes (8 * number + 2) at (size ++ (bytes ++ rest)) (omega arith) in
    let second = bytes_at-back (at + length tag) bytes rest fits in
    let same : (8 * number + 2) / 8 ≡ number = omega arith in
    let whole : length (field_bytes number bytes) ≡ length tag + (length size + length bytes) = omega (arith, length-append (tag ++ size) bytes, length-append tag size) in
    let start : at + (length tag + (length size + length bytes) - length bytes) ≡ at + length tag + length size = omega arith in
    rw (grouped, first, bytes_type at number is, drop_prefix tag (size ++ (bytes ++ rest)), second, same, whole, start) refl

pub fields_of-bytes : (at number : ℕ) (bytes rest : List ℕ) → IsFieldNumber number → length bytes < 2 ^ 64
    → let size = length (field_bytes number bytes) in
    fields_of at (field_bytes number bytes ++ rest)
    ≡ with_field (record { number = number; at = at; value = Bytes (at + (size - length bytes)) bytes }) (fields_of (at + size) rest)
fields_of-bytes at number bytes rest is fits =
    let some : 0 < length (field_bytes number bytes ++ rest) = omega (arith, some-varint_bytes (8 * number + 2), length-append (field_bytes number bytes) rest, length-append (varint_bytes (8 * number + 2) ++ varint_bytes (length bytes)) bytes, length-append (varint_bytes (8 * number + 2)) (varint_bytes (length bytes))) in
    fields_of-field at (field_bytes number bytes ++ rest) _ some (field_at-bytes at number bytes rest is fits)
    ∙ rw (drop_prefix (field_bytes number bytes) rest) refl
