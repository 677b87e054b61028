-- What numbers and words are, as forms over whole lists of bytes: those of the text format's public
-- specification. `Letters` says which bytes are of a kind.
use Rattle.std.specs.Prelude.{ℕ, ◌≡◌, ◌<◌, ◌^◌, Bool, false, IsTrue, List, [], ◌∷◌, ◌++◌, length}
use Rattle.std.specs.List.{AllByRecursion}
use Rattle.cy_text.specs.Letters.{is_between, is_digit, is_hex, is_letter, is_octal, is_word}
use Rattle.cy_text.specs.Letters.{starts}
use Rattle.cy_text.specs.Numbers.{either, value_from}
use Rattle.cy_text.specs.declared.number.Number.{Number}
use Rattle.cy_text.specs.declared.number.Number.TheVariants.{Whole, Literal}

-- Bytes that are all of a kind.
abbrev pub AreAll : (ℕ → Bool) → List ℕ → Type 0
AreAll test bytes = AllByRecursion (λ b. IsTrue (test b)) bytes

-- One byte of a kind, or more.
pub record IsRun (test : ℕ → Bool) (bytes : List ℕ) : Type 0 where
  pub some : 0 < length bytes
  pub all : AreAll test bytes

-- A name or a word: a letter or `_`, then letters, digits and `_`.
pub data IsWord : List ℕ → Type 0 where
  letters : {b : ℕ} {bytes : List ℕ} → IsTrue (is_letter b) → AreAll is_word bytes
      → IsWord (b ∷ bytes)

-- A decimal: 0, or 1 to 9 and digits.
pub data IsDecimal : List ℕ → Type 0 where
  nought : IsDecimal (48 ∷ [])
  counted : {d : ℕ} {digits : List ℕ} → IsTrue (is_between 49 57 d) → AreAll is_digit digits
      → IsDecimal (d ∷ digits)

-- A whole number and its size: a decimal, or 0 and octal digits, or `0x` or `0X` and hexadecimal
-- digits.
pub data IsWhole : List ℕ → ℕ → Type 0 where
  decimal : {digits : List ℕ} → IsDecimal digits → IsWhole digits (value_from 10 0 digits)
  octal : {digits : List ℕ} → IsRun is_octal digits → IsWhole (48 ∷ digits) (value_from 8 0 digits)
  hexadecimal : {x : ℕ} {digits : List ℕ} → IsTrue (either 120 88 x) → IsRun is_hex digits
      → IsWhole (48 ∷ x ∷ digits) (value_from 16 0 digits)

-- An exponent: `e` or `E`, maybe a sign, and digits.
pub data IsExponent : List ℕ → Type 0 where
  unsigned : {e : ℕ} {digits : List ℕ} → IsTrue (either 101 69 e) → IsRun is_digit digits
      → IsExponent (e ∷ digits)
  signed : {e sign : ℕ} {digits : List ℕ} → IsTrue (either 101 69 e) → IsTrue (either 43 45 sign)
      → IsRun is_digit digits → IsExponent (e ∷ sign ∷ digits)

-- What may stand behind the digits of a float literal: an exponent or none, and an `f` or `F` or
-- none.
pub data IsTail : List ℕ → Type 0 where
  bare : IsTail []
  suffix : {f : ℕ} → IsTrue (either 102 70 f) → IsTail (f ∷ [])
  exponent : {e : List ℕ} → IsExponent e → IsTail e
  both : {e : List ℕ} → IsExponent e → (f : ℕ) → IsTrue (either 102 70 f) → IsTail (e ++ f ∷ [])

-- A float literal: a decimal, a point and maybe digits, or a point and digits, either with or
-- without an exponent and a suffix; or a decimal with an exponent, a suffix or both.
pub data IsFloat : List ℕ → Type 0 where
  pointed : {whole tail : List ℕ} → IsDecimal whole → (fraction : List ℕ)
      → AreAll is_digit fraction → IsTail tail → IsFloat (whole ++ 46 ∷ (fraction ++ tail))
  fractional : {fraction tail : List ℕ} → IsRun is_digit fraction → IsTail tail
      → IsFloat (46 ∷ (fraction ++ tail))
  pointless : {whole tail : List ℕ} → IsDecimal whole → IsTail tail → 0 < length tail
      → IsFloat (whole ++ tail)

-- A number, and what it is.
pub data IsNumber : List ℕ → Number → Type 0 where
  whole : {bytes : List ℕ} {size : ℕ} → IsWhole bytes size → IsNumber bytes (Whole size)
  float : {bytes : List ℕ} → IsFloat bytes → IsNumber bytes Literal

-- A whole number has 64 bits.
abbrev pub FitsIn64 : Number → Type 0
FitsIn64 (Whole size) = size < 2 ^ 64
FitsIn64 Literal = Unit {0}

-- The number with which bytes begin, before the rest of them: the longest one that they begin with.
-- A whole one has 64 bits, and no letter, digit or `_` follows.
pub record IsNumberBefore (rest piece : List ℕ) (number : Number) : Type 0 where
  pub form : IsNumber piece number
  pub longest : (more others : List ℕ) (other : Number) → rest ≡ more ++ others
      → IsNumber (piece ++ more) other → more ≡ []
  pub ended : starts is_word rest ≡ false
  pub fits : FitsIn64 number
