-- What a text says: fields with their values.
use Rattle.std.specs.Prelude.{ℕ, ◌+◌, Bool, List}
use Rattle.cy_text.specs.declared.tree.Span.{Span}

mutual
  -- Some fields in their order: none, or some and a last one, with its name and where it stands.
  pub data Fields : Type 0 where
    Nothing : Fields
    And : (before : Fields) (name : List ℕ) (span : Span) (held : Held) → Fields

  -- What a field holds.
  pub data Held : Type 0 where
    Whole : (negative : Bool) (size : ℕ) → Held
    Literal : (text : List ℕ) → Held
    Word : (negative : Bool) (text : List ℕ) → Held
    Quote : (bytes : List ℕ) → Held
    Message : (fields : Fields) → Held

-- How many fields there are, those of messages within them included.
abbrev mutual
  pub size_of : Fields → ℕ
  size_of Nothing = 0
  size_of (And before name span held) = size_of before + size_held held + 1

  pub size_held : Held → ℕ
  size_held (Whole negative size) = 0
  size_held (Literal text) = 0
  size_held (Word negative text) = 0
  size_held (Quote bytes) = 0
  size_held (Message fields) = size_of fields
