-- How the fault of a text is told, and whether it is a limit that was passed.
use Rattle.std.specs.Prelude.{ℕ, List, ◌++◌, Bool, true, false, codes}
use Rattle.std.specs.Fmt.{decimal}
use Rattle.cy_text.specs.declared.error.BadKind.{BadKind}
use Rattle.cy_text.specs.declared.error.BadKind.TheVariants as bad
use Rattle.cy_text.specs.declared.error.TextError.{TextError}
use Rattle.cy_text.specs.declared.error.TextError.TheVariants as text

-- The name of a kind.
abbrev pub kind_text : BadKind → List ℕ
kind_text bad.Token = codes "Token"
kind_text bad.Number = codes "Number"
kind_text bad.Quote = codes "Quote"
kind_text bad.Escape = codes "Escape"
kind_text bad.Extension = codes "Extension"
kind_text bad.Name = codes "Name"
kind_text bad.Colon = codes "Colon"
kind_text bad.Value = codes "Value"
kind_text bad.Close = codes "Close"

-- A kind, at its line and column.
abbrev pub place_text : ℕ → ℕ → List ℕ → List ℕ
place_text line column kind =
    codes "line " ++ decimal line ++ codes " column " ++ decimal column ++ codes ": " ++ kind

abbrev pub text_text : TextError → List ℕ
text_text (text.Bad line column kind) = place_text line column (kind_text kind)
text_text (text.TooDeep line column) = place_text line column (codes "TooDeep")
text_text text.Memory = codes "out of memory"

-- A message that stands too deep is a limit that was passed.
abbrev pub is_text_limit : TextError → Bool
is_text_limit (text.TooDeep line column) = true
is_text_limit other = false
