-- Lists of lines.
use Rattle.std.proofs.Common.{List, [], ◌∷◌, ◌++◌}
use Rattle.cy_trace.specs.TraceForm.{AreLines}
use Rattle.cy_trace.specs.declared.line.Line.{Line}

-- lists of lines of the form make one
pub are_lines-append : (xs ys : List Line) → AreLines xs → AreLines ys → AreLines (xs ++ ys)
are_lines-append [] ys h k = k
are_lines-append (x ∷ xs) ys h k = (h.0, are_lines-append xs ys h.1 k)
