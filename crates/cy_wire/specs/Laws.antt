-- What holds of the spelling of every number, and of the fields of all bytes.
use Rattle.std.specs.Prelude.{◌≡◌, ◌<◌, ◌≤◌, ◌^◌, ◌++◌, ◌+◌, ◌-◌, ℕ, ℤ, List, [], ◌∷◌, length, All}
use Rattle.std.specs.Prelude.{Some, FitsSigned}
use Rattle.std.specs.Int.{w64}
use Rattle.cy_wire.specs.Wire.{varint_bytes, zigzag, field_u64, field_bytes}
use Rattle.cy_wire.specs.Field.{Fields, Varint, Bytes, with_field, fields_of}
use Rattle.cy_wire.specs.Form.{IsFields}
use Rattle.cy_wire.specs.Front.{front_number}
use Rattle.cy_wire.specs.Zigzag.{unzigzag}

-- A number that was written is the one that is read, whatever follows it.
abbrev pub ReadsBack : Type 0
ReadsBack = (n : ℕ) (rest : List ℕ) → n < 2 ^ 64 → front_number (varint_bytes n ++ rest)
    ≡ Some (n, length (varint_bytes n))

-- It takes a byte at least.
abbrev pub TakesAByte : Type 0
TakesAByte = (n : ℕ) → 0 < length (varint_bytes n)

-- It takes ten bytes at most.
abbrev pub TakesTenBytesAtMost : Type 0
TakesTenBytesAtMost = (n : ℕ) → length (varint_bytes n) ≤ 10

-- A number below 128 is its own byte.
abbrev pub SmallIsItsByte : Type 0
SmallIsItsByte = (n : ℕ) → n < 128 → varint_bytes n ≡ n ∷ []

-- Its bytes are bytes.
abbrev pub BytesFit : Type 0
BytesFit = (n : ℕ) → n < 2 ^ 64 → All (λ byte. byte < 256) (varint_bytes n)

-- The spelling of every number: how long it is, and what is in it.
pub record TakesOneToTenBytes : Type 0 where
  pub some : TakesAByte
  pub most : TakesTenBytesAtMost
  pub small : SmallIsItsByte
  pub bytes : BytesFit

-- Of a signed number nothing is lost.
abbrev pub UnzigzagUndoes : Type 0
UnzigzagUndoes = (value : ℤ) → unzigzag (zigzag value) ≡ value

-- One of 64 bits is written as one of 64 bits.
abbrev pub ZigzagFits : Type 0
ZigzagFits = (value : ℤ) → FitsSigned w64 value → zigzag value < 2 ^ 64

-- A field number, as the standard allows them.
pub record IsFieldNumber (number : ℕ) : Type 0 where
  pub low : 1 ≤ number
  pub high : number ≤ 536870911

-- A field with a number that was written is the one that is read, and the fields behind it follow.
abbrev pub NumberReadsBack : Type 0
NumberReadsBack = (at number value : ℕ) (rest : List ℕ) → IsFieldNumber number → value < 2 ^ 64
    → fields_of at (field_u64 number value ++ rest)
    ≡ with_field (record { number = number; at = at; value = Varint value })
    (fields_of (at + length (field_u64 number value)) rest)

-- And one with bytes, which end the field.
abbrev pub BytesReadBack : Type 0
BytesReadBack = (at number : ℕ) (bytes rest : List ℕ) → IsFieldNumber number → length bytes < 2 ^ 64
    → let size = length (field_bytes number bytes) in
    fields_of at (field_bytes number bytes ++ rest)
    ≡ with_field (record {
      number = number;
      at = at;
      value = Bytes
          (at + (size - length bytes)) bytes;
    }) (fields_of (at + size) rest)

-- Bytes have one sequence of fields by the grammar, with one fault at most, and it is the one that
-- is read.
abbrev pub FieldsAreForm : Type 0
FieldsAreForm = (at : ℕ) (bytes : List ℕ) → IsFields at bytes (fields_of at bytes)
    × ((other : Fields) → IsFields at bytes other → other ≡ fields_of at bytes)
