-- What is read at the front of bytes: where the bytes of a value end, how many are taken, and what
-- is answered.
use Rattle.std.specs.Prelude.{ℕ, ◌≡◌, ◌+◌, ◌<◌, ◌≤◌, ◌^◌, List, length, Result, Ok, Err}
use Rattle.cy_wire.specs.declared.field.FieldValue.{FieldValue}
use Rattle.cy_wire.specs.declared.field.FieldValue.TheVariants.{Varint, Eight, Bytes, Four}

-- The place behind the last byte of bytes, and 0 for a number.
abbrev pub end_of : FieldValue → ℕ
end_of (Varint value) = 0
end_of (Eight value) = 0
end_of (Bytes start bytes) = start + length bytes.now
end_of (Four value) = 0

-- What was read at the front of bytes takes so many of them: one at least, and no more than there
-- are.
pub record TakesSome (taken : ℕ) (bytes : List ℕ) : Type 0 where
  pub some : 0 < taken
  pub within : taken ≤ length bytes

-- A value that was read there: its own bytes end at a place of 64 bits.
pub record IsInside (value : FieldValue) (taken : ℕ) (bytes : List ℕ) : Type 0 where
  pub fits : end_of value < 2 ^ 64
  pub within : taken ≤ length bytes

-- Exactly what stands there is answered, whose view is without where bytes lie in memory.
abbrev pub Answers : {A B E : Type 0} → (A → B) → Result A E → Result B E → Type 0
Answers view (Ok value) there = there ≡ Ok (view value)
Answers view (Err fault) there = there ≡ Err fault
