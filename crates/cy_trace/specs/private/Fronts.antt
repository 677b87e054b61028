-- What the bytes that are left of a trace's text begin with.
use Rattle.std.specs.Prelude.{ℕ, ◌≡◌, List, ◌++◌, Option, codes}
use Rattle.cy_trace.specs.TraceForm.{Each, IsLine, IsOutput, IsShort, numbers_text, output_text}
use Rattle.cy_trace.specs.TraceForm.{whole_line}
use Rattle.cy_trace.specs.declared.line.Line.{Line}
use Rattle.cy_trace.specs.declared.trace.TraceOutput.{TraceOutput}

-- They begin with a line, and the rest stands behind it.
pub record BeginsWith (bytes : List ℕ) (line : Line) (rest : List ℕ) : Type 0 where
  pub text : bytes ≡ whole_line line ++ rest
  pub fits : IsLine line

-- They begin with what stands behind the tail of a call.
pub record BeginsWithParts (bytes seqs : List ℕ) (out : Option TraceOutput) (rest : List ℕ) :
    Type 0 where
  pub text : bytes ≡ numbers_text seqs ++ codes " " ++ output_text out ++ rest
  pub short : Each IsShort seqs
  pub fits : IsOutput out
