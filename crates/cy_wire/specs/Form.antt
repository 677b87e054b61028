-- The wire form as a grammar over whole lists of bytes (protobuf.dev, "Encoding": "Base 128
-- Varints" and "Message Structure"), and what stands where bytes first leave it.
use Rattle.std.specs.Prelude.{ℕ, ◌≡◌, ◌<◌, ◌≤◌, ◌+◌, ◌*◌, ◌/◌, ◌%◌, ◌^◌, ◌⊎◌, List, [], ◌∷◌, ◌++◌}
use Rattle.std.specs.Prelude.{length}
use Rattle.std.specs.List.{AllByRecursion}
use Rattle.byteorder.specs.Endian.{little_number}
use Rattle.cy_wire.specs.declared.error.WireError.{WireError}
use Rattle.cy_wire.specs.declared.error.WireError.TheVariants.{Cut, LongVarint, BadTag, Group}
use Rattle.cy_wire.specs.Field.{WireValue, Varint, Eight, Bytes, Four, WireField}
use Rattle.cy_wire.specs.Field.{Fields, no_fields, faulty, with_field}

-- Seven bits a byte, the lowest first, each byte but the last with its high bit set; and the number
-- that they make.
pub data IsBase128 : List ℕ → ℕ → Type 0 where
  last : {byte : ℕ} → byte < 128 → IsBase128 (byte ∷ []) byte
  more : {byte number : ℕ} {bytes : List ℕ} → 128 ≤ byte → IsBase128 bytes number
      → IsBase128 (byte ∷ bytes) (byte % 128 + 128 * number)

-- A varint: at most ten such bytes. It is the low 64 bits of their number.
pub record IsVarint (bytes : List ℕ) (value : ℕ) : Type 0 where
  pub number : ℕ
  pub bits : IsBase128 bytes number
  pub short : length bytes ≤ 10
  pub low : value ≡ number % 2 ^ 64

-- A tag: a varint of 32 bits, which is the number of a field, that isn't 0, times 8 and the type of
-- its value.
pub record IsTag (bytes : List ℕ) (number kind : ℕ) : Type 0 where
  pub spelled : IsVarint bytes (8 * number + kind)
  pub fits : 8 * number + kind < 2 ^ 32
  pub some : 0 < number
  pub low : kind < 8

-- The bytes of a value, by its type: a varint, eight bytes, a length and that many bytes, or four
-- bytes. They stand at a place.
pub data IsValue (at : ℕ) : (kind : ℕ) → List ℕ → WireValue → Type 0 where
  plain : {bytes : List ℕ} {value : ℕ} → IsVarint bytes value → IsValue at 0 bytes (Varint value)
  eight : {bytes : List ℕ} → length bytes ≡ 8 → IsValue at 1 bytes (Eight (little_number 8 bytes))
  counted : {size bytes : List ℕ} → IsVarint size (length bytes)
      → IsValue at 2 (size ++ bytes) (Bytes (at + length size) bytes)
  four : {bytes : List ℕ} → length bytes ≡ 4 → IsValue at 5 bytes (Four (little_number 4 bytes))

-- A field that stands at a place: a tag and a value of its type.
pub data IsField (at : ℕ) : List ℕ → WireField → Type 0 where
  tagged : {tag bytes : List ℕ} {number kind : ℕ} {value : WireValue} → IsTag tag number kind
      → IsValue (at + length tag) kind bytes value
      → IsField at (tag ++ bytes) (record { number = number; at = at; value = value })

-- Bytes that all have their high bit set, so that none of them ends a varint.
abbrev pub AreHigh : List ℕ → Type 0
AreHigh bytes = AllByRecursion (λ byte. 128 ≤ byte) bytes

-- No varint stands at a place: the bytes end within it, or ten of them don't end it.
pub data IsNoVarint (at : ℕ) : List ℕ → WireError → Type 0 where
  cut : {bytes : List ℕ} → AreHigh bytes → length bytes < 10 → IsNoVarint at bytes (Cut at)
  long : (bytes rest : List ℕ) → AreHigh bytes → length bytes ≡ 10
      → IsNoVarint at (bytes ++ rest) (LongVarint at)

-- A number that is no tag: it is longer, its field has the number 0, or its type is 6 or 7.
pub data IsNoTag (tag : ℕ) : Type 0 where
  large : 2 ^ 32 ≤ tag → IsNoTag tag
  unnumbered : tag / 8 ≡ 0 → IsNoTag tag
  untyped : 6 ≤ tag % 8 → IsNoTag tag

-- No value of a type stands at a place: there are too few bytes, or its number or its length is no
-- varint. Where the length is one, the fault is at the byte behind it.
pub data IsNoValue (at : ℕ) : (kind : ℕ) → List ℕ → WireError → Type 0 where
  no_number : {bytes : List ℕ} {fault : WireError} → IsNoVarint at bytes fault
      → IsNoValue at 0 bytes fault
  no_eight : {bytes : List ℕ} → length bytes < 8 → IsNoValue at 1 bytes (Cut at)
  no_length : {bytes : List ℕ} {fault : WireError} → IsNoVarint at bytes fault
      → IsNoValue at 2 bytes fault
  no_bytes : {size : List ℕ} {count : ℕ} → IsVarint size count → (bytes : List ℕ)
      → length bytes < count → IsNoValue at 2 (size ++ bytes) (Cut (at + length size))
  no_four : {bytes : List ℕ} → length bytes < 4 → IsNoValue at 5 bytes (Cut at)

-- No field stands at a place: its tag is none, or it is that of a group, which types 3 and 4 begin
-- and end, or no value stands behind it. A fault of the tag is at its first byte.
pub data IsNoField (at : ℕ) : List ℕ → WireError → Type 0 where
  no_varint : {bytes : List ℕ} {fault : WireError} → IsNoVarint at bytes fault
      → IsNoField at bytes fault
  no_tag : {bytes : List ℕ} {tag : ℕ} → IsVarint bytes tag → IsNoTag tag → (rest : List ℕ)
      → IsNoField at (bytes ++ rest) (BadTag at)
  group : {tag : List ℕ} {number kind : ℕ} → IsTag tag number kind → (kind ≡ 3) ⊎ (kind ≡ 4)
      → (rest : List ℕ) → IsNoField at (tag ++ rest) (Group at)
  no_value : {tag bytes : List ℕ} {number kind : ℕ} {fault : WireError} → IsTag tag number kind
      → IsNoValue (at + length tag) kind bytes fault → IsNoField at (tag ++ bytes) fault

-- The fields of bytes that stand at a place: one behind another up to the end, or to the first
-- bytes that begin with none, whose fault is the message's.
pub data IsFields : (at : ℕ) → List ℕ → Fields → Type 0 where
  ended : {at : ℕ} → IsFields at [] no_fields
  field : {at : ℕ} {bytes rest : List ℕ} {first : WireField} {others : Fields}
      → IsField at bytes first → IsFields (at + length bytes) rest others
      → IsFields at (bytes ++ rest) (with_field first others)
  broken : {at : ℕ} {bytes : List ℕ} {fault : WireError} → 0 < length bytes
      → IsNoField at bytes fault → IsFields at bytes (faulty fault)
