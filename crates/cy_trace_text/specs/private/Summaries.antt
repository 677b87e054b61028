-- The line of a call, by what is kept of it.
use Rattle.std.specs.Prelude.{ℕ, ◌++◌, List, codes}
use Rattle.std.specs.List.{flat_map}
use Rattle.std.specs.Fmt.{decimal}
use Rattle.cy_comp.specs.declared.summary.CallSummary.{CallSummary}
use Rattle.cy_comp.specs.Summary.{numbers_of}
use Rattle.cy_trace_text.specs.TraceText.{out_text}

abbrev pub numbers_text : List ℕ → List ℕ
numbers_text numbers = flat_map (λ n. codes " " ++ decimal n) numbers

abbrev pub summary_text : (before : ℕ) → CallSummary → List ℕ
summary_text before s =
    codes "call " ++ decimal s.position ++ codes "/" ++ decimal s.tail
    ++ numbers_text (numbers_of s.seqs) ++ codes " " ++ out_text before s.out ++ codes "\n"
