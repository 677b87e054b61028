use Rattle.std.proofs.Common.{◌≡◌, ◌<◌, ℕ, List, Some, slice_get}
use Rattle.std.specs.Str.{IsUtf8}
use Rattle.cy_trace_text.proofs.typed.names_are_texts.Given as goal

abbrev pub invariant-loop-number : goal.invariant-loop-number
invariant-loop-number l = (n : ℕ) (name : List ℕ) → n < l.number → slice_get l.names n ≡ Some name → IsUtf8 name
