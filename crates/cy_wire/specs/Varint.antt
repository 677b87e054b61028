-- The number that a varint stands for (protobuf.dev, "Encoding"): seven bits a byte, the lowest
-- first, each byte but the last with its high bit set.
use Rattle.std.specs.Prelude.{ℕ, zero, suc, ◌+◌, ◌*◌, ◌%◌, ◌^◌, nat_lt, if◌then◌else◌, List, []}
use Rattle.std.specs.Prelude.{◌∷◌, Result, Ok, Err}
use Rattle.cy_wire.specs.declared.error.WireError.{WireError}
use Rattle.cy_wire.specs.declared.error.WireError.TheVariants.{Cut, LongVarint}

-- What stands behind so many bytes, whose bits are `lower`: the number counts in units of `scale`
-- above it, and takes those bytes too.
abbrev pub above : ℕ → ℕ → ℕ → Result (ℕ × ℕ) WireError → Result (ℕ × ℕ) WireError
above lower scale bytes (Ok found) = Ok (lower + scale * found.0, bytes + found.1)
above lower scale bytes (Err fault) = Err fault

-- The number at the front of bytes, up to the first byte below 128, and how many bytes it takes: at
-- most so many. `at` is the place of the varint's first byte.
unfoldable pub varint_in : ℕ → ℕ → List ℕ → Result (ℕ × ℕ) WireError
varint_in zero at bytes = Err (LongVarint at)
varint_in (suc more) at [] = Err (Cut at)
varint_in (suc more) at (byte ∷ bytes) = if nat_lt byte 128 then Ok (byte, 1) else above
    (byte % 128) 128 1 (varint_in more at bytes)

-- Bits past 64 are dropped.
abbrev pub low_64_bits : Result (ℕ × ℕ) WireError → Result (ℕ × ℕ) WireError
low_64_bits (Ok found) = Ok (found.0 % 2 ^ 64, found.1)
low_64_bits (Err fault) = Err fault

-- The number of 64 bits at the front of bytes that stand at a place, and how many bytes it takes:
-- ten at most.
unfoldable pub varint_at : ℕ → List ℕ → Result (ℕ × ℕ) WireError
varint_at at bytes = low_64_bits (varint_in 10 at bytes)
