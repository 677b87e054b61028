-- How a text is cut into tokens, and what tokens are faulty.
use Rattle.std.specs.Prelude.{ℕ, ◌≡◌, ◌+◌, ◌==◌, ◌||◌, ◌&&◌, not, Bool, IsTrue}
use Rattle.std.specs.Prelude.{None, Some}
use Rattle.std.specs.Prelude.{List, [], ◌∷◌, ◌++◌, length, false}
use Rattle.cy_text.specs.Letters.{is_blank, is_letter, is_word, starts}
use Rattle.cy_text.specs.Pieces.{AreAll, IsNumberBefore, IsWord}
use Rattle.cy_text.specs.Quotations.{IsBody, IsEscapeBefore, IsStringBefore, is_quote}
use Rattle.cy_text.specs.Tokens.{Tokens, Next, End, Faulty, lexeme, mark_of, number_token}
use Rattle.cy_text.specs.Tokens.{begins_number, begins_token}
use Rattle.cy_text.specs.declared.number.Number.{Number}
use Rattle.cy_text.specs.declared.escape.Escape.{Escape}
use Rattle.cy_text.specs.declared.token.Token.{Token}
use Rattle.cy_text.specs.declared.token.Token.TheVariants.{Word, Quote}
use Rattle.cy_text.specs.declared.error.BadKind.TheVariants as kind
use Rattle.cy_text.specs.declared.fault.Fault.{Fault}
use Rattle.cy_text.specs.declared.fault.Fault.TheVariants.{Bad}

-- The token with which bytes begin, before the rest of them: a mark, the longest word, the longest
-- number, or a string, of which there is one at most, since no byte of its inside closes it.
pub data IsTokenBefore (rest : List ℕ) : List ℕ → Token → Type 0 where
  mark : {b : ℕ} {found : Token} → mark_of b ≡ Some found → IsTokenBefore rest (b ∷ []) found
  word : {piece : List ℕ} → IsWord piece → starts is_word rest ≡ false
      → IsTokenBefore rest piece (Word piece)
  number : {piece : List ℕ} {found : Number} → IsNumberBefore rest piece found
      → IsTokenBefore rest piece (number_token found piece)
  string : {piece says : List ℕ} → IsStringBefore rest piece says
      → IsTokenBefore rest piece (Quote says)

-- The bytes from the end of a line on.
pub data IsLineEnd : List ℕ → Type 0 where
  no_more : IsLineEnd []
  newline : {bytes : List ℕ} → IsLineEnd (10 ∷ bytes)

-- No escape stands at the start of bytes.
abbrev pub NoEscape : List ℕ → Type 0
NoEscape bytes = (piece rest : List ℕ) (found : Escape) → bytes ≡ piece ++ rest
    → IsEscapeBefore rest piece found → ⊥

-- Nor does a number.
abbrev pub NoNumber : List ℕ → Type 0
NoNumber bytes = (piece rest : List ℕ) (number : Number) → bytes ≡ piece ++ rest
    → IsNumberBefore rest piece number → ⊥

-- A byte that is no blank and begins no comment, word, number or string.
abbrev pub begins_none : ℕ → Bool
begins_none b = begins_token b && not (is_letter b || begins_number b || is_quote b)

-- The fault of the token with which bytes begin that stand at a place. A wrong escape is answered,
-- and not that the quote behind it is missing.
pub data IsFaultAt (at : ℕ) : List ℕ → Fault → Type 0 where
  -- A byte that begins no token.
  no_token : {b : ℕ} {bytes : List ℕ} → IsTrue (begins_none b) → mark_of b ≡ None
      → IsFaultAt at (b ∷ bytes) (Bad kind.Token at)
  -- A digit or a point that no number begins with.
  no_number : {b : ℕ} {bytes : List ℕ} → IsTrue (begins_number b) → NoNumber (b ∷ bytes)
      → IsFaultAt at (b ∷ bytes) (Bad kind.Number at)
  -- A string that isn't closed on its line.
  no_quote : {quote : ℕ} {body behind says : List ℕ} → IsTrue (is_quote quote)
      → IsBody quote behind body says → IsLineEnd behind
      → IsFaultAt at (quote ∷ body ++ behind) (Bad kind.Quote at)
  -- A backslash in a string that no escape stands behind.
  no_escape : {quote : ℕ} {body behind says : List ℕ} → IsTrue (is_quote quote)
      → IsBody quote (92 ∷ behind) body says → NoEscape behind
      → IsFaultAt at (quote ∷ body ++ 92 ∷ behind) (Bad kind.Escape (at + 1 + length body))

-- The tokens of bytes that stand at a place, up to their end or to the first faulty token. Blanks
-- stand for nothing, nor does a comment: `#` and what is left of its line.
pub data IsCut : ℕ → List ℕ → Tokens → Type 0 where
  ended : {at : ℕ} → IsCut at [] (End at)
  blank : {at b : ℕ} {bytes : List ℕ} {tokens : Tokens} → IsTrue (is_blank b)
      → IsCut (at + 1) bytes tokens → IsCut at (b ∷ bytes) tokens
  comment : {at : ℕ} {bytes : List ℕ} {tokens : Tokens} (line : List ℕ)
      → AreAll (λ b. not (b == 10)) line → IsLineEnd bytes
      → IsCut (at + 1 + length line) bytes tokens → IsCut at (35 ∷ line ++ bytes) tokens
  token : {at : ℕ} {piece rest : List ℕ} {found : Token} {more : Tokens}
      → IsTokenBefore rest piece found → IsCut (at + length piece) rest more
      → IsCut at (piece ++ rest) (Next (lexeme found at (at + length piece)) more)
  faulty : {at : ℕ} {bytes : List ℕ} {fault : Fault} → IsFaultAt at bytes fault
      → IsCut at bytes (Faulty fault)
