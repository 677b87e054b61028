-- Which number stands at the front of bytes, and how many of them it takes.
use Rattle.std.specs.Prelude.{ℕ, zero, suc, ◌+◌, ◌*◌, ◌%◌, ◌^◌, nat_lt, if◌then◌else◌, List, []}
use Rattle.std.specs.Prelude.{◌∷◌, Option, Some, None}

-- What is found behind so many bytes that stand for `lower`: the number counts in units of `scale`
-- above it, and takes those bytes too.
abbrev pub behind : ℕ → ℕ → ℕ → Option (ℕ × ℕ) → Option (ℕ × ℕ)
behind lower scale bytes None = None
behind lower scale bytes (Some found) = Some (lower + scale * found.0, bytes + found.1)

-- Seven bits a byte, the lowest first, up to the first byte below 128: none where that is not one
-- of the first so many.
unfoldable pub number_within : ℕ → List ℕ → Option (ℕ × ℕ)
number_within zero bytes = None
number_within (suc more) [] = None
number_within (suc more) (byte ∷ bytes) = if nat_lt byte 128 then Some (byte, 1) else behind
    (byte % 128) 128 1 (number_within more bytes)

-- A number of 2 ^ 64 or more is none.
abbrev pub within_64_bits : Option (ℕ × ℕ) → Option (ℕ × ℕ)
within_64_bits None = None
within_64_bits (Some found) = if nat_lt found.0 (2 ^ 64) then Some found else None

-- The number below 2 ^ 64 at the front, as a varint of at most ten bytes, and how many it takes.
unfoldable pub front_number : List ℕ → Option (ℕ × ℕ)
front_number bytes = within_64_bits (number_within 10 bytes)
