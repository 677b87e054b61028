use Rattle.std.proofs.Common.{◌≡◌, ◌<◌, ℕ, Some, slice_get}
use Rattle.cy_comp.specs.declared.answers.Answer.{Answer}
use Rattle.cy_trace.specs.TraceForm.{IsValue}
use Rattle.cy_trace_text.proofs.typed.answers_suit.Given as goal

abbrev pub invariant-loop-answer : goal.invariant-loop-answer
invariant-loop-answer l = (n : ℕ) (a : Answer) → n < l.answer-index → slice_get l.answers n ≡ Some a → IsValue a.whole
