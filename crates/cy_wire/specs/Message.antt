-- How a message is read from its fields (protobuf.dev, "Encoding", "Last One Wins"): by the numbers
-- that its own fields have. Fields with other numbers are skipped, and so is a field of another
-- wire type than its own.
use Rattle.std.specs.Prelude.{ℕ, ◌%◌, ◌^◌, ◌==◌, if◌then◌else◌, List, [], Option, Some}
use Rattle.std.specs.Prelude.{None, unwrap_or}
use Rattle.std.specs.List.{filter_map, last_or}
use Rattle.cy_wire.specs.declared.field.Span.{Span}
use Rattle.cy_wire.specs.Field.{WireValue, Varint, Eight, Bytes, Four, WireField}

-- Bytes, and the place of the first.
pub record WireSpan : Type 0 where
  pub start : ℕ
  pub bytes : List ℕ

-- Bytes of the program, without where they lie in memory.
abbrev pub seen_span : Span → WireSpan
seen_span span = record { start = span.start; bytes = span.bytes.now }

-- The number in a field with this number, where it holds one; and the bytes.
abbrev pub varint_value : WireValue → Option ℕ
varint_value (Varint value) = Some value
varint_value (Eight value) = None
varint_value (Bytes start bytes) = None
varint_value (Four value) = None

abbrev pub bytes_value : WireValue → Option WireSpan
bytes_value (Varint value) = None
bytes_value (Eight value) = None
bytes_value (Bytes start bytes) = Some record { start = start; bytes = bytes }
bytes_value (Four value) = None

unfoldable pub number_in : ℕ → WireField → Option ℕ
number_in number field = if field.number == number then varint_value field.value else None

unfoldable pub span_in : ℕ → WireField → Option WireSpan
span_in number field = if field.number == number then bytes_value field.value else None

-- A repeated field of embedded messages or of bytes: each of them, in order.
abbrev pub spans_of : ℕ → List WireField → List WireSpan
spans_of number fields = filter_map (span_in number) fields

-- A single field: of several the last counts. None where it is missing.
unfoldable pub last_number : ℕ → List WireField → Option ℕ
last_number number fields = last_or None (filter_map (number_in number) fields)

unfoldable pub last_span : ℕ → List WireField → Option WireSpan
last_span number fields = last_or None (spans_of number fields)

-- A missing number is 0, and missing bytes are empty.
abbrev pub u64_of : ℕ → List WireField → ℕ
u64_of number fields = unwrap_or (last_number number fields) 0

abbrev pub span_of : ℕ → List WireField → WireSpan
span_of number fields = unwrap_or (last_span number fields) record { start = 0; bytes = [] }

abbrev pub bytes_of : ℕ → List WireField → List ℕ
bytes_of number fields = (span_of number fields).bytes

-- A number of 32 bits takes the low ones.
abbrev pub u32_of : ℕ → List WireField → ℕ
u32_of number fields = u64_of number fields % 2 ^ 32
