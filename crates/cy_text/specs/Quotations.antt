-- What strings are, as forms over whole lists of bytes.
use Rattle.std.specs.Prelude.{ℕ, ◌≡◌, ◌<◌, ◌≤◌, ◌==◌, ◌||◌, not, Bool, IsTrue, Some}
use Rattle.std.specs.Prelude.{List, [], ◌∷◌, ◌++◌, length}
use Rattle.cy_text.specs.Letters.{is_hex, is_octal}
use Rattle.cy_text.specs.Numbers.{either, value_from}
use Rattle.cy_text.specs.Pieces.{AreAll, IsRun}
use Rattle.cy_text.specs.Strings.{escape_bytes, is_char, simple_escape}
use Rattle.cy_text.specs.declared.escape.Escape.{Escape}
use Rattle.cy_text.specs.declared.escape.Escape.TheVariants.{Byte, Char}

-- What stands behind a backslash, and what it is: a letter or a mark of the table; one to three
-- octal digits; `x` and one or two hexadecimal digits; `u` and four, or `U` and eight of them.
pub data IsEscape : List ℕ → Escape → Type 0 where
  simple : {b n : ℕ} → simple_escape b ≡ Some n → IsEscape (b ∷ []) (Byte n)
  octal : {digits : List ℕ} → IsRun is_octal digits → length digits ≤ 3
      → IsEscape digits (Byte (value_from 8 0 digits))
  hexadecimal : {digits : List ℕ} → IsRun is_hex digits → length digits ≤ 2
      → IsEscape (120 ∷ digits) (Byte (value_from 16 0 digits))
  short : {digits : List ℕ} → AreAll is_hex digits → length digits ≡ 4
      → IsEscape (117 ∷ digits) (Char (value_from 16 0 digits))
  long : {digits : List ℕ} → AreAll is_hex digits → length digits ≡ 8
      → IsEscape (85 ∷ digits) (Char (value_from 16 0 digits))

-- A byte is below 256. A character is no surrogate and at most 10FFFF.
abbrev pub IsInRange : Escape → Type 0
IsInRange (Byte n) = n < 256
IsInRange (Char n) = IsTrue (is_char n)

-- The escape with which bytes begin, before the rest of them: the longest one that they begin with.
pub record IsEscapeBefore (rest piece : List ℕ) (found : Escape) : Type 0 where
  pub form : IsEscape piece found
  pub longest : (more others : List ℕ) (other : Escape) → rest ≡ more ++ others
      → IsEscape (piece ++ more) other → more ≡ []
  pub range : IsInRange found

-- A byte that stands for itself: no quote of the string's kind, no newline and no backslash.
abbrev pub is_plain : ℕ → ℕ → Bool
is_plain quote b = not (b == quote || b == 10 || b == 92)

-- What stands behind a quote and before some bytes, and the bytes that it says.
pub data IsBody (quote : ℕ) (behind : List ℕ) : List ℕ → List ℕ → Type 0 where
  nothing : IsBody quote behind [] []
  plain : {b : ℕ} {body says : List ℕ} → IsTrue (is_plain quote b)
      → IsBody quote behind body says → IsBody quote behind (b ∷ body) (b ∷ says)
  escape : {piece body says : List ℕ} {found : Escape}
      → IsEscapeBefore (body ++ behind) piece found → IsBody quote behind body says
      → IsBody quote behind (92 ∷ piece ++ body) (escape_bytes found ++ says)

-- `"` or `'`.
abbrev pub is_quote : ℕ → Bool
is_quote b = either 34 39 b

-- A string before some bytes, and the bytes that it says: what stands between two quotes of a kind.
pub data IsStringBefore (rest : List ℕ) : List ℕ → List ℕ → Type 0 where
  quoted : {quote : ℕ} {body says : List ℕ} → IsTrue (is_quote quote)
      → IsBody quote (quote ∷ rest) body says
      → IsStringBefore rest (quote ∷ body ++ quote ∷ []) says
