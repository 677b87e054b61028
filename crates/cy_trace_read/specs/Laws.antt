-- Laws on texts that are read.
use Rattle.std.specs.Prelude.{ℕ, ◌≡◌, List, Some}
use Rattle.cy_trace.specs.declared.line.Line.{Line}
use Rattle.cy_trace.specs.declared.trace.Trace.{Trace}
use Rattle.cy_trace.specs.TraceForm.{IsFirstBad, IsLine, IsTrace, IsTraceText, line_text}
use Rattle.cy_trace.specs.TraceForm.{text_of_trace}
use Rattle.cy_trace_read.specs.LineReading.{line_of}

-- A line that is written is read back.
abbrev pub LinesReadBack : Type 0
LinesReadBack = (line : Line) → IsLine line → line_of (line_text line) ≡ Some line

-- Bytes that are read as a line are its text.
abbrev pub LinesAreSpelled : Type 0
LinesAreSpelled = (bytes : List ℕ) (line : Line) → line_of bytes ≡ Some line → IsLine line
    × (bytes ≡ line_text line)

-- No two traces have one text.
abbrev pub TextsTellTraces : Type 0
TextsTellTraces = (t u : Trace) → IsTrace t → IsTrace u → text_of_trace t ≡ text_of_trace u → t ≡ u

-- A text has no two first bad lines,
abbrev pub FirstBadIsOne : Type 0
FirstBadIsOne = (text : List ℕ) (m n : ℕ) → IsFirstBad text m → IsFirstBad text n → m ≡ n

-- and one of the form has none.
abbrev pub TextsOfTracesAreGood : Type 0
TextsOfTracesAreGood = (text : List ℕ) (n : ℕ) → IsFirstBad text n → ¬ (IsTraceText text)
