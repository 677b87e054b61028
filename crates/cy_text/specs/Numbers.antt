-- The numbers of the text form. Each definition takes the bytes from the number's first one on.
use Rattle.std.specs.Prelude.{ℕ, ◌+◌, ◌*◌, ◌^◌, ◌==◌, nat_lt, ◌||◌, Bool, List, [], ◌∷◌, take, drop}
use Rattle.std.specs.Prelude.{Option, Some, None, if◌then◌else◌}
use Rattle.std.specs.List.{prefix_len}
use Rattle.cy_text.specs.Letters.{is_digit, is_octal, is_hex, is_word, digit_of, starts}
use Rattle.cy_text.specs.declared.number.Number.{Number}
use Rattle.cy_text.specs.declared.number.Number.TheVariants.{Whole, Literal}

-- Whether a byte is one of two.
abbrev pub either : ℕ → ℕ → ℕ → Bool
either one other b = b == one || b == other

-- The value of digits that stand behind ones of some value.
abbrev pub value_from : ℕ → ℕ → List ℕ → ℕ
value_from base value [] = value
value_from base value (d ∷ digits) = value_from base (value * base + digit_of d) digits

-- The value of digits, where it is below 2 ^ 64.
unfoldable pub value_of : ℕ → List ℕ → Option ℕ
value_of base digits = if nat_lt (value_from base 0 digits) (2 ^ 64) then Some
    (value_from base 0 digits) else None

-- An exponent: `e`, maybe a sign, and digits.
unfoldable pub exponent_len : List ℕ → ℕ
exponent_len bytes =
    if starts (either 101 69) bytes
    then (let sign = if starts (either 43 45) (drop 1 bytes) then 1 else 0 in
    if starts is_digit (drop (1 + sign) bytes) then 1 + sign + prefix_len is_digit
    (drop (1 + sign) bytes) else 0)
    else 0

-- What may stand behind the digits of a float literal: an exponent, and an `f`.
unfoldable pub tail_len : List ℕ → ℕ
tail_len bytes = exponent_len bytes +
    (if starts (either 102 70) (drop (exponent_len bytes) bytes) then 1 else 0)

-- A number of so many bytes: none where a letter, a digit or `_` follows at once.
abbrev pub ended : Number → ℕ → List ℕ → Option (Number × ℕ)
ended number len bytes = if starts is_word (drop len bytes) then None else Some (number, len)

abbrev pub sized : Option ℕ → ℕ → List ℕ → Option (Number × ℕ)
sized None len bytes = None
sized (Some size) len bytes = ended (Whole size) len bytes

-- A whole number whose `count` digits stand behind `prefix` other bytes.
unfoldable pub whole_at : ℕ → ℕ → ℕ → List ℕ → Option (Number × ℕ)
whole_at base prefix count bytes = sized (value_of base (take count (drop prefix bytes)))
    (prefix + count) bytes

-- A literal with its point behind `count` digits.
unfoldable pub pointed_at : ℕ → List ℕ → Option (Number × ℕ)
pointed_at count bytes =
    let digits_end = count + 1 + prefix_len is_digit (drop (count + 1) bytes) in
    ended Literal (digits_end + tail_len (drop digits_end bytes)) bytes

-- A number that begins with a decimal of `count` digits.
unfoldable pub decimal_at : ℕ → List ℕ → Option (Number × ℕ)
decimal_at count bytes =
    if starts (either 46 46) (drop count bytes) then pointed_at count bytes
    else (if tail_len (drop count bytes) == 0 then whole_at 10 0 count bytes
    else ended Literal (count + tail_len (drop count bytes)) bytes)

-- One that begins with 0: hexadecimal behind an `x`, octal where an octal digit follows, else a
-- decimal.
unfoldable pub zero_at : List ℕ → Option (Number × ℕ)
zero_at bytes =
    if starts (either 120 88) (drop 1 bytes)
    then (if prefix_len is_hex (drop 2 bytes) == 0 then None else whole_at 16 2
    (prefix_len is_hex (drop 2 bytes)) bytes)
    else (if starts is_octal (drop 1 bytes) then whole_at 8 1 (prefix_len is_octal (drop 1 bytes))
    bytes else decimal_at 1 bytes)

-- The number that begins with a digit or a point, and how many bytes it takes: none where it is
-- outside the form or too large.
unfoldable pub number_at : List ℕ → Option (Number × ℕ)
number_at [] = None
number_at (b ∷ bytes) =
    if b == 46 then (if starts is_digit bytes then pointed_at 0 (b ∷ bytes) else None)
    else (if b == 48 then zero_at (b ∷ bytes) else decimal_at (1 + prefix_len is_digit bytes) (b
    ∷ bytes))
