-- Where fields stand in a text.
use Rattle.std.specs.Prelude.{ℕ, ◌<◌, ◌≤◌, ◌+◌}
use Rattle.cy_text.specs.Fields.{Fields, Held, Nothing, And, Whole, Literal, Word, Quote, Message}
use Rattle.cy_text.specs.declared.tree.Span.{Span}

abbrev mutual
  -- Between two places fields stand in their order: none begins before the one before it ends, and
  -- each takes a byte at least.
  pub AreInOrder : ℕ → ℕ → Fields → Type 0
  AreInOrder low high Nothing = low ≤ high
  AreInOrder low high (And before name span held) = AreInOrder low span.start before
      × (span.start < span.end) × (span.end ≤ high) × IsInOrder span held

  -- The fields of a message do so within its span, behind its first byte: there its name or its
  -- bracket begins.
  pub IsInOrder : Span → Held → Type 0
  IsInOrder span (Whole negative size) = Unit {0}
  IsInOrder span (Literal text) = Unit {0}
  IsInOrder span (Word negative text) = Unit {0}
  IsInOrder span (Quote bytes) = Unit {0}
  IsInOrder span (Message fields) = AreInOrder (span.start + 1) span.end fields
