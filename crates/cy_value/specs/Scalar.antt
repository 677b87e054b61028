-- What the bits of a field stand for, by its kind (protobuf.dev, "Encoding" and "Scalar Value
-- Types").
use Rattle.std.specs.Prelude.{ℕ, ℤ, pos, ◌-◌, ◌%◌, ◌^◌, ◌==◌, min, if◌then◌else◌}
use Rattle.std.specs.Prelude.{Option, Some, None}
use Rattle.std.specs.Int.{w32, w64, cast_signed}
use Rattle.cy_wire.specs.Field.{WireValue, Varint, Eight, Bytes, Four}
use Rattle.cy_wire.specs.Message.{varint_value}
use Rattle.cy_wire.specs.Zigzag.{unzigzag}
use Rattle.cy_value.specs.declared.kind.ScalarKind.{ScalarKind}
use Rattle.cy_value.specs.declared.kind.ScalarKind.TheVariants.{Int32, Int64, Uint32, Uint64}
use Rattle.cy_value.specs.declared.kind.ScalarKind.TheVariants.{Sint32, Sint64, Fixed32, Fixed64}
use Rattle.cy_value.specs.declared.kind.ScalarKind.TheVariants.{Sfixed32, Sfixed64, Bool, Enum}
use Rattle.cy_value.specs.declared.kind.ScalarKind.TheVariants.{Float, Double}
use Rattle.cy_value.specs.Point.{binary32, binary64, point_number}

-- The number in a field of four bytes, and in one of eight.
abbrev pub four_value : WireValue → Option ℕ
four_value (Varint value) = None
four_value (Eight value) = None
four_value (Bytes start bytes) = None
four_value (Four value) = Some value

abbrev pub eight_value : WireValue → Option ℕ
eight_value (Varint value) = None
eight_value (Eight value) = Some value
eight_value (Bytes start bytes) = None
eight_value (Four value) = None

-- The bits in a field of a kind, where it is written as fields of that kind are.
unfoldable pub bits_in : ScalarKind → WireValue → Option ℕ
bits_in Fixed32 value = four_value value
bits_in Sfixed32 value = four_value value
bits_in Float value = four_value value
bits_in Fixed64 value = eight_value value
bits_in Sfixed64 value = eight_value value
bits_in Double value = eight_value value
bits_in _ value = varint_value value

-- A number, held within 64 signed bits.
abbrev pub held : ℕ → ℤ
held n = pos (min n (2 ^ 63 - 1))

-- The number that the bits of a kind stand for. Only a number with a point is multiplied.
unfoldable pub number_of : ScalarKind → (scale bits : ℕ) → Option ℤ
number_of Int32 scale bits = Some (cast_signed w32 (bits % 2 ^ 32))
number_of Sfixed32 scale bits = Some (cast_signed w32 (bits % 2 ^ 32))
number_of Enum scale bits = Some (cast_signed w32 (bits % 2 ^ 32))
number_of Int64 scale bits = Some (cast_signed w64 bits)
number_of Sfixed64 scale bits = Some (cast_signed w64 bits)
number_of Uint32 scale bits = Some (pos (bits % 2 ^ 32))
number_of Fixed32 scale bits = Some (pos (bits % 2 ^ 32))
number_of Uint64 scale bits = Some (held bits)
number_of Fixed64 scale bits = Some (held bits)
number_of Sint32 scale bits = Some (unzigzag (bits % 2 ^ 32))
number_of Sint64 scale bits = Some (unzigzag bits)
number_of Bool scale bits = Some (pos (if bits == 0 then 0 else 1))
number_of Float scale bits = point_number binary32 scale bits
number_of Double scale bits = point_number binary64 scale bits
