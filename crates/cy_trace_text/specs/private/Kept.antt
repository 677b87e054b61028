-- Numbers whose digits are kept as the bytes of one number.
use Rattle.std.specs.Prelude.{ℕ, List, [], ◌∷◌, ◌≡◌, ◌<◌, ◌+◌, ◌*◌, ◌^◌, length, nat_lt}
use Rattle.std.specs.Prelude.{if◌then◌else◌}
use Rattle.std.specs.Fmt.{decimal}

-- A number that is kept: it has eight digits at most, else 0 is kept for it.
abbrev pub kept_number : ℕ → ℕ
kept_number n = if nat_lt n 100000000 then n else 0

-- The number of these bytes, the lowest one first.
unfoldable pub low_first : List ℕ → ℕ
low_first [] = 0
low_first (b ∷ bytes) = b + 256 * low_first bytes

-- A number that is kept, its digits in decimal as the bytes of one number, the first one the
-- lowest, what a one at the place of the last digit is there, and how many digits there are.
pub record IsKept (number digits unit len : ℕ) : Type 0 where
  pub spelled : digits ≡ low_first (decimal number)
  pub place : unit * 256 ≡ 256 ^ len
  pub long : len ≡ length (decimal number)
  pub few : number < 100000000
