-- Fields that stand in their order are at most as many as the bytes that they stand in.
use Rattle.std.proofs.Common.{ℕ, ◌≡◌, ◌+◌, ◌<◌, ◌≤◌, List, length, Ok, arith}
use Rattle.cy_text.specs.Fields.{Fields, Held, Nothing, And, Whole, Literal, Word, Quote, Message, size_of, size_held}
use Rattle.cy_text.specs.Places.{fields_of_text}
use Rattle.cy_text.specs.Spans.{AreInOrder, IsInOrder}
use Rattle.cy_text.specs.declared.tree.Span.{Span}
use Rattle.cy_text.proofs.TokenRows.{in_order}

mutual
  few_between : (fields : Fields) (low high : ℕ) → AreInOrder low high fields → size_of fields + low ≤ high
  few_between Nothing low high h = omega (arith, h)
  few_between (And before name span held) low high h = omega (arith, few_between before low span.start h.0, few_within held span h.1 h.3, h.2)

  few_within : (held : Held) (span : Span) → span.start < span.end → IsInOrder span held → size_held held + span.start + 1 ≤ span.end
  few_within (Whole negative size) span some h = omega (arith, some)
  few_within (Literal text) span some h = omega (arith, some)
  few_within (Word negative text) span some h = omega (arith, some)
  few_within (Quote bytes) span some h = omega (arith, some)
  few_within (Message fields) span some h = omega (arith, few_between fields (span.start + 1) span.end h)

pub few : (text : List ℕ) (fields : Fields) → fields_of_text text ≡ Ok fields → size_of fields ≤ length text
few text fields e = omega (arith, few_between fields 0 (length text) (in_order text fields e))
