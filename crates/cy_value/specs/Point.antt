-- The whole number that the bits of a number with a point stand for (IEEE 754, binary32 and
-- binary64): multiplied by a scale, cut towards zero, and held within 64 signed bits.
use Rattle.std.specs.Prelude.{ℕ, ℤ, pos, zero, suc, negsuc, ◌+◌, ◌-◌, ◌*◌, ◌/◌, ◌%◌, ◌^◌, ◌==◌}
use Rattle.std.specs.Prelude.{nat_le, min, max, Bool, if◌then◌else◌, Option, Some, None}
use Rattle.cy_value.specs.declared.point.PointFormat.{PointFormat}

-- The format of four bytes, and that of eight.
abbrev pub binary32 : PointFormat
binary32 = record { fractions = 2 ^ 23; exponents = 2 ^ 8; places = 150 }

abbrev pub binary64 : PointFormat
binary64 = record { fractions = 2 ^ 52; exponents = 2 ^ 11; places = 1075 }

-- The fraction is in the low bits, and the exponent above it.
abbrev pub fraction_of : PointFormat → ℕ → ℕ
fraction_of format bits = bits % format.fractions

abbrev pub exponent_of : PointFormat → ℕ → ℕ
exponent_of format bits = bits / format.fractions % format.exponents

-- The highest bit is the sign.
abbrev pub is_negative : PointFormat → ℕ → Bool
is_negative format bits = nat_le format.exponents (bits / format.fractions)

-- The digits: a leading 1 stands above the fraction but where the exponent is 0.
abbrev pub digits_of : PointFormat → ℕ → ℕ
digits_of format bits = if exponent_of format bits == 0 then fraction_of format bits
    else fraction_of format bits + format.fractions

-- The size of the number is its digits times 2 to its exponent, over 2 to the number of places; an
-- exponent of 0 counts as 1. It is multiplied by a scale, and what is behind the point is dropped.
abbrev pub size_of : PointFormat → ℕ → ℕ → ℕ
size_of format scale bits =
    digits_of format bits * scale * 2 ^ max (exponent_of format bits) 1 / 2 ^ format.places

-- A number by its sign and its size, held within 64 signed bits.
abbrev pub negated : ℕ → ℤ
negated zero = pos 0
negated (suc n) = negsuc n

abbrev pub held_signed : Bool → ℕ → ℤ
held_signed is_negative size = if is_negative then negated (min size (2 ^ 63))
    else pos (min size (2 ^ 63 - 1))

-- The greatest exponent is that of what is infinite or no number.
unfoldable pub point_number : PointFormat → (scale bits : ℕ) → Option ℤ
point_number format scale bits =
    if exponent_of format bits == format.exponents - 1 then None
    else Some (held_signed (is_negative format bits) (size_of format scale bits))
