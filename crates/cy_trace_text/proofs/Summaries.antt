-- The line of a call is told by what is kept of it.
use Rattle.std.proofs.Common.{ℕ, ◌≡◌, ◌++◌, ◌∙◌, List, Some, is_some, ap, refl, codes, if◌then◌else◌}
use Rattle.std.specs.Fmt.{decimal}
use Rattle.cy_msg.specs.declared.token.Tuple.{Tuple}
use Rattle.cy_msg.specs.declared.token.Tuple.TheVariants.{One, Two, Three, Four}
use Rattle.cy_comp.specs.declared.call.Call.{Call}
use Rattle.cy_comp.specs.declared.summary.CallSummary.{CallSummary}
use Rattle.cy_comp.specs.Summary.{numbers_of, seqs_of, summary_of}
use Rattle.cy_trace_text.specs.TraceText.{seqs_text, out_text, call_line}
use Rattle.cy_trace_text.specs.private.Summaries.{numbers_text, summary_text}

same_numbers : (t : Tuple) → numbers_text (numbers_of (seqs_of t)) ≡ seqs_text t
same_numbers (One a) = refl
same_numbers (Two a b) = refl
same_numbers (Three a b c) = refl
same_numbers (Four a b c d) = refl

pub line_told : (before : ℕ) (x : Call) (s : CallSummary) → s ≡ summary_of x → summary_text before s ≡ call_line before x
line_told before x s is =
    ap (summary_text before) is
    ∙ ap (λ (l : List ℕ). codes "call " ++ decimal x.position ++ codes "/" ++ decimal x.tail ++ l ++ codes " " ++ out_text before x.out ++ codes "\n") (same_numbers x.tuple)

pub outs_told : (one : ℕ) (x : Call) (s : CallSummary) → s ≡ summary_of x → one ≡ (if is_some s.out then 1 else 0) → one ≡ (if is_some x.out then 1 else 0)
outs_told one x s is count = count ∙ ap (λ (t : CallSummary). if is_some t.out then 1 else 0) is
