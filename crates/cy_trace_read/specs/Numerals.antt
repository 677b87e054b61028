-- Numbers in decimal, without leading zeros.
use Rattle.std.specs.Prelude.{ℕ, zero, suc, ℤ, pos, negsuc, ◌==◌, ◌&&◌, nat_lt, not, List, [], ◌∷◌}
use Rattle.std.specs.Prelude.{Option, Some, None, option_map, if◌then◌else◌}
use Rattle.std.specs.Option.{option_and_then}
use Rattle.std.specs.Str.{bytes_eq}
use Rattle.std.specs.Str.Parse.{digits_value}
use Rattle.std.specs.Fmt.{decimal}

-- The number that is at most `most` and whose decimal digits the bytes are.
unfoldable pub number : ℕ → List ℕ → Option ℕ
number most word =
    let n = digits_value 10 word in
    if not (nat_lt most n) && bytes_eq word (decimal n) then Some n else None

abbrev pub below_zero : ℕ → Option ℤ
below_zero zero = None
below_zero (suc n) = Some (negsuc n)

-- The number of 64 bits that the bytes spell, with a sign where it is below 0.
unfoldable pub signed : List ℕ → Option ℤ
signed [] = None
signed (b ∷ digits) =
    if b == 45 then option_and_then below_zero (number 9223372036854775808 digits)
    else option_map pos (number 9223372036854775807 (b ∷ digits))
