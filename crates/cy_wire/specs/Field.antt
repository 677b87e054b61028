-- The fields of a message (protobuf.dev, "Encoding", "Message Structure"): one after another up to
-- the end of its bytes, each a tag and a value.
use Rattle.std.specs.Prelude.{ℕ, zero, suc, ◌+◌, ◌-◌, ◌/◌, ◌%◌, nat_lt, ◌==◌, ◌||◌}
use Rattle.std.specs.Prelude.{if◌then◌else◌, List, [], ◌∷◌, length, take, drop, Option, Some, None}
use Rattle.std.specs.Prelude.{Result, Ok, Err}
use Rattle.byteorder.specs.Endian.{little_number}
use Rattle.cy_wire.specs.declared.error.WireError.{WireError}
use Rattle.cy_wire.specs.declared.error.WireError.TheVariants.{Cut, BadTag, Group}
use Rattle.cy_wire.specs.declared.field.Field.{Field}
use Rattle.cy_wire.specs.declared.field.FieldValue.{FieldValue}
use Rattle.cy_wire.specs.declared.field.FieldValue.TheVariants as held
use Rattle.cy_wire.specs.Varint.{varint_at}

-- The value of a field: a varint, a number of eight bytes, bytes with the place of the first, or a
-- number of four bytes.
pub data WireValue : Type 0 where
  Varint : ℕ → WireValue
  Eight : ℕ → WireValue
  Bytes : (start : ℕ) → (bytes : List ℕ) → WireValue
  Four : ℕ → WireValue

-- A field: its number, the place of its tag, and its value.
pub record WireField : Type 0 where
  pub number : ℕ
  pub at : ℕ
  pub value : WireValue

-- One reading after another: the first fault stands.
infixl 10 ◌>>=◌
abbrev pub ◌>>=◌ : {A B : Type 0} → Result A WireError → (A → Result B WireError)
    → Result B WireError
(Ok x) >>= f = f x
(Err fault) >>= f = Err fault

-- The wire type of a tag, its low three bits, where the tag is one: it has 32 bits, its field's
-- number is not 0, and the type is 0 (varint), 1 (eight bytes), 2 (length and bytes) or 5 (four
-- bytes). Types 3 and 4 begin and end a group.
abbrev pub wire_type : ℕ → ℕ → Result ℕ WireError
wire_type at tag =
    if nat_lt 4294967295 tag || nat_lt tag 8 || nat_lt 5 (tag % 8) then Err (BadTag at)
    else (if tag % 8 == 3 || tag % 8 == 4 then Err (Group at) else Ok (tag % 8))

-- A number of so many bytes, little-endian.
abbrev pub fixed_at : ℕ → (ℕ → WireValue) → ℕ → List ℕ → Result (WireValue × ℕ) WireError
fixed_at size value at bytes = if nat_lt (length bytes) size then Err (Cut at) else Ok
    (value (little_number size bytes), size)

unfoldable pub number_at : ℕ → List ℕ → Result (WireValue × ℕ) WireError
number_at at bytes = do
  number ← varint_at at bytes
  Ok (Varint number.0, number.1)

-- A length and that many bytes.
unfoldable pub bytes_at : ℕ → List ℕ → Result (WireValue × ℕ) WireError
bytes_at at bytes = do
  size ← varint_at at bytes
  if nat_lt (length bytes - size.1) size.0 then Err (Cut (at + size.1))
      else Ok (Bytes (at + size.1) (take size.0 (drop size.1 bytes)), size.1 + size.0)

-- The value at the front of bytes, by its wire type, and how many bytes it takes.
unfoldable pub value_at : ℕ → ℕ → List ℕ → Result (WireValue × ℕ) WireError
value_at kind at bytes =
    if kind == 0 then number_at at bytes
    else (if kind == 1 then fixed_at 8 Eight at bytes
    else (if kind == 2 then bytes_at at bytes else fixed_at 4 Four at bytes))

-- The field at the front of bytes that stand at a place, and how many bytes it takes.
unfoldable pub field_at : ℕ → List ℕ → Result (WireField × ℕ) WireError
field_at at bytes = do
  tag ← varint_at at bytes
  kind ← wire_type at tag.0
  value ← value_at kind (at + tag.1) (drop tag.1 bytes)
  Ok (record { number = tag.0 / 8; at = at; value = value.0 }, tag.1 + value.1)

-- The fields that stand one after another, and the fault that ends them before the bytes do, if
-- there is one.
pub record Fields : Type 0 where
  pub fields : List WireField
  pub fault : Option WireError

abbrev pub no_fields : Fields
no_fields = record { fields = []; fault = None }

abbrev pub faulty : WireError → Fields
faulty fault = record { fields = []; fault = Some fault }

abbrev pub with_field : WireField → Fields → Fields
with_field field rest = record { fields = field ∷ rest.fields; fault = rest.fault }

-- A field, or the fault in its place, and the fields behind it.
abbrev pub and_those_behind : Result (WireField × ℕ) WireError → (ℕ → Fields) → Fields
and_those_behind (Ok field) behind = with_field field.0 (behind field.1)
and_those_behind (Err fault) behind = faulty fault

-- The fields of bytes that stand at a place: so many at most.
unfoldable pub fields_in : ℕ → ℕ → List ℕ → Fields
fields_in more at [] = no_fields
fields_in zero at (byte ∷ bytes) = no_fields
fields_in (suc more) at (byte ∷ bytes) =
    and_those_behind (field_at at (byte ∷ bytes)) (λ taken. fields_in more (at + taken)
    (drop taken (byte ∷ bytes)))

-- All of them: there are no more than bytes, since each takes a byte at least.
unfoldable pub fields_of : ℕ → List ℕ → Fields
fields_of at bytes = fields_in (length bytes) at bytes

-- What is made of all fields of a message, or the fault that ends them.
abbrev pub unless_fault : {A : Type 0} → Option WireError → A → Result A WireError
unless_fault None made = Ok made
unless_fault (Some fault) made = Err fault

-- A field of the program, without where its bytes lie in memory.
abbrev pub seen_value : FieldValue → WireValue
seen_value (held.Varint value) = Varint value
seen_value (held.Eight value) = Eight value
seen_value (held.Bytes start bytes) = Bytes start bytes.now
seen_value (held.Four value) = Four value

abbrev pub seen : Field → WireField
seen field = record { number = field.number; at = field.at; value = seen_value field.value }
