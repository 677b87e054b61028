-- The tokens of a text.
use Rattle.std.specs.Prelude.{ℕ, ◌≡◌, ◌<◌, ◌≤◌, zero, suc, ◌+◌, ◌-◌, ◌==◌, ◌||◌, not, Bool, List}
use Rattle.std.specs.Prelude.{[], ◌∷◌, length, take, drop, Option, Some, None, Result, Ok, Err}
use Rattle.std.specs.Prelude.{if◌then◌else◌}
use Rattle.std.specs.List.{prefix_len}
use Rattle.cy_text.specs.Letters.{is_blank, is_digit, is_letter, is_word}
use Rattle.cy_text.specs.Numbers.{number_at}
use Rattle.cy_text.specs.Strings.{string_at, and_then}
use Rattle.cy_text.specs.declared.number.Number.{Number}
use Rattle.cy_text.specs.declared.number.Number.TheVariants as numbers
use Rattle.cy_text.specs.declared.token.Bracket.TheVariants.{Brace, Angle}
use Rattle.cy_text.specs.declared.token.Token.{Token}
use Rattle.cy_text.specs.declared.token.Token.TheVariants.{Open, Close, ListOpen, ListClose, Colon}
use Rattle.cy_text.specs.declared.token.Token.TheVariants.{Comma, Semicolon, Minus, Whole, Literal}
use Rattle.cy_text.specs.declared.token.Token.TheVariants.{Word, Quote}
use Rattle.cy_text.specs.declared.token.Lexeme.{Lexeme}
use Rattle.cy_text.specs.declared.error.BadKind.TheVariants as kind
use Rattle.cy_text.specs.declared.fault.Fault.{Fault}
use Rattle.cy_text.specs.declared.fault.Fault.TheVariants.{Bad}

-- The token that a mark is.
unfoldable pub mark_of : ℕ → Option Token
mark_of b =
    if b == 123 then Some (Open Brace) else (if b == 125 then Some (Close Brace)
    else (if b == 60 then Some (Open Angle) else (if b == 62 then Some (Close Angle)
    else (if b == 91 then Some ListOpen else (if b == 93 then Some ListClose
    else (if b == 58 then Some Colon else (if b == 44 then Some Comma else
    (if b == 59 then Some Semicolon
    else (if b == 45 then Some Minus else None)))))))))

-- A token that stands from `at` up to `end`.
abbrev pub lexeme : Token → ℕ → ℕ → Lexeme
lexeme token at end = record { token = token; span = record { start = at; end = end } }

abbrev pub marked : ℕ → Option Token → Result Lexeme Fault
marked at None = Err (Bad kind.Token at)
marked at (Some token) = Ok (lexeme token at (at + 1))

-- A number is its size, or its text.
abbrev pub number_token : Number → List ℕ → Token
number_token (numbers.Whole size) text = Whole size
number_token numbers.Literal text = Literal text

abbrev pub numbered : ℕ → List ℕ → Option (Number × ℕ) → Result Lexeme Fault
numbered at bytes None = Err (Bad kind.Number at)
numbered at bytes (Some found) = Ok (lexeme (number_token found.0 (take found.1 bytes)) at
    (at + found.1))

-- A word: a letter, and what letters and digits follow.
unfoldable pub word_at : ℕ → List ℕ → Result Lexeme Fault
word_at at bytes =
    let len = 1 + prefix_len is_word (drop 1 bytes) in
    Ok (lexeme (Word (take len bytes)) at (at + len))

-- What a number begins with.
abbrev pub begins_number : ℕ → Bool
begins_number b = is_digit b || b == 46

-- A token stands at the start of bytes.
pub record IsThere (at : ℕ) (bytes : List ℕ) (found : Lexeme) : Type 0 where
  pub start : found.span.start ≡ at
  pub some : at < found.span.end
  pub within : found.span.end ≤ at + length bytes

-- The token that begins with these bytes, which stand at `at`, or what is wrong with it.
unfoldable pub token_at : ℕ → List ℕ → Result Lexeme Fault
token_at at [] = Err (Bad kind.Token at)
token_at at (b ∷ bytes) =
    if is_letter b then word_at at (b ∷ bytes)
    else (if begins_number b then numbered at (b ∷ bytes) (number_at (b ∷ bytes))
    else (if b == 34 || b == 39 then and_then (string_at at (b ∷ bytes))
    (λ found. Ok (lexeme (Quote found.0) at found.1))
    else marked at (mark_of b)))

-- Whether a byte is neither a blank nor the mark of a comment.
abbrev pub begins_token : ℕ → Bool
begins_token b = not (is_blank b || b == 35)

-- The tokens of a text in their order, up to its end or to the first that is faulty in itself.
pub data Tokens : Type 0 where
  Next : (lexeme : Lexeme) (more : Tokens) → Tokens
  End : (at : ℕ) → Tokens
  Faulty : (fault : Fault) → Tokens

-- The tokens of bytes that stand at `at`, of which the first `passed` belong to a token or a
-- comment that was read. Blanks stand for nothing, and so does a `#` with what is left of its line.
unfoldable pub tokens_from : ℕ → ℕ → List ℕ → Tokens
tokens_from at passed [] = End at
tokens_from at (suc passed) (b ∷ bytes) = tokens_from (at + 1) passed bytes
tokens_from at zero (b ∷ bytes) =
    if is_blank b then tokens_from (at + 1) 0 bytes
    else (if b == 35 then tokens_from (at + 1) (prefix_len (λ byte. not (byte == 10)) bytes) bytes
    else (elim (token_at at (b ∷ bytes)) [
      | Ok found ↦ Next found (tokens_from (at + 1) (found.span.end - (at + 1)) bytes)
      | Err fault ↦ Faulty fault
    ]))

-- The tokens of a whole text.
abbrev pub tokens_of : List ℕ → Tokens
tokens_of text = tokens_from 0 0 text
