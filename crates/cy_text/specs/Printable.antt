-- Fields that are read back from their printed form, and what is read.
use Rattle.std.specs.Prelude.{ℕ, ◌≡◌, ◌<◌, ◌^◌, All, List, ◌∷◌, ◌⊎◌}
use Rattle.cy_text.specs.Fields.{Fields, Held, Nothing, And, Whole, Literal, Word, Quote, Message}
use Rattle.cy_text.specs.Pieces.{IsFloat, IsWord}

-- A float literal, with a sign or without one.
abbrev pub IsLiteral : List ℕ → Type 0
IsLiteral text = IsFloat text ⊎ ((size : List ℕ) × (text ≡ 45 ∷ size) × IsFloat size)

abbrev mutual
  -- Names, words and literals have their form, whole numbers have 64 bits, and strings are bytes.
  pub IsPrintable : Fields → Type 0
  IsPrintable Nothing = Unit {0}
  IsPrintable (And before name span held) = IsPrintable before × IsWord name × IsPrintableHeld held

  pub IsPrintableHeld : Held → Type 0
  IsPrintableHeld (Whole negative size) = size < 2 ^ 64
  IsPrintableHeld (Literal text) = IsLiteral text
  IsPrintableHeld (Word negative text) = IsWord text
  IsPrintableHeld (Quote bytes) = All (λ byte. byte < 256) bytes
  IsPrintableHeld (Message fields) = IsPrintable fields

abbrev mutual
  -- Fields as if each stood at the start of its text.
  pub without_spans : Fields → Fields
  without_spans Nothing = Nothing
  without_spans (And before name span held) = And (without_spans before) name
      (record { start = 0; end = 0 }) (held_without_spans held)

  pub held_without_spans : Held → Held
  held_without_spans (Whole negative size) = Whole negative size
  held_without_spans (Literal text) = Literal text
  held_without_spans (Word negative text) = Word negative text
  held_without_spans (Quote bytes) = Quote bytes
  held_without_spans (Message fields) = Message (without_spans fields)

-- They say the same, wherever it stands.
abbrev pub SameButSpans : Fields → Fields → Type 0
SameButSpans one other = without_spans one ≡ without_spans other
