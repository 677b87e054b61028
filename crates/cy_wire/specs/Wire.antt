-- The wire form of Protocol Buffers (protobuf.dev, "Encoding"): how numbers and fields are spelled.
use Rattle.std.specs.Prelude.{ℕ, ℤ, pos, negsuc, zero, suc, ◌+◌, ◌*◌, ◌/◌, ◌%◌, nat_lt}
use Rattle.std.specs.Prelude.{if◌then◌else◌, List, [], ◌∷◌, ◌++◌, length}

-- Seven bits a byte, the lowest first, each byte but the last with its high bit set: at most this
-- many bytes and one more.
unfoldable pub varint_within : ℕ → ℕ → List ℕ
varint_within zero n = n ∷ []
varint_within (suc more) n = if nat_lt n 128 then n ∷ [] else (n % 128 + 128)
    ∷ varint_within more (n / 128)

-- A number below 2 ^ 64 as a varint, in the least number of bytes.
unfoldable pub varint_bytes : ℕ → List ℕ
varint_bytes n = varint_within 9 n

-- A field that holds a number: its number with wire type 0, and the varint.
abbrev pub field_u64 : ℕ → ℕ → List ℕ
field_u64 number value = varint_bytes (8 * number) ++ varint_bytes value

-- A field that holds bytes: its number with wire type 2, their length and they themselves.
abbrev pub field_bytes : ℕ → List ℕ → List ℕ
field_bytes number bytes = varint_bytes (8 * number + 2) ++ varint_bytes (length bytes) ++ bytes

-- A signed number as an unsigned one: 0, -1, 1, -2, 2 and so on.
abbrev pub zigzag : ℤ → ℕ
zigzag (pos n) = 2 * n
zigzag (negsuc n) = 2 * n + 1

-- The written form of the message Whole, { 1 value: sint64 }.
abbrev pub whole_content : ℤ → List ℕ
whole_content value = field_u64 1 (zigzag value)
