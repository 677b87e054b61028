-- What the body of a section says: the value that its fields have, or the first fault with its
-- place.
use Rattle.std.specs.Prelude.{◌≡◌, ℕ, ◌+◌, ◌==◌, if◌then◌else◌, List, [], ◌∷◌, length, map}
use Rattle.std.specs.Prelude.{Option, Some, None, Result, Ok, Err, slice_index, EachIndex}
use Rattle.std.specs.Prelude.{unwrap_or}
use Rattle.std.specs.Option.{option_map}
use Rattle.std.specs.Str.Lossy.{utf8_valid_len}
use Rattle.cy_wire.specs.declared.error.WireError.{WireError}
use Rattle.cy_wire.specs.declared.error.WireError.TheVariants as wire_error
use Rattle.cy_wire.specs.Field.{WireField, Fields, fields_of}
use Rattle.cy_wire.specs.Message.{WireSpan, number_in, last_span, spans_of, span_of, bytes_of}
use Rattle.cy_wire.specs.Message.{u64_of, u32_of}
use Rattle.cy_section.specs.declared.error.SectionError.{SectionError}
use Rattle.cy_section.specs.declared.error.SectionError.TheVariants.{Wire, NameNotText, Memory}
use Rattle.cy_section.specs.declared.types.Header.{Header}
use Rattle.cy_section.specs.declared.types.ChunkHeader.{ChunkHeader}
use Rattle.cy_section.specs.declared.types.BodyMessage.{BodyMessage}
use Rattle.cy_section.specs.declared.types.Channel.{Channel}
use Rattle.cy_section.specs.declared.types.ChannelCache.{ChannelCache}
use Rattle.cy_section.specs.declared.types.ChunkHeaderCache.{ChunkHeaderCache}
use Rattle.cy_section.specs.declared.types.ChunkBodyCache.{ChunkBodyCache}
use Rattle.cy_section.specs.declared.types.IndexEntry.{IndexEntry}
use Rattle.cy_section.specs.Rows.{header_from, chunk_header_from, chunk_header_cache_from}
use Rattle.cy_section.specs.Rows.{chunk_body_cache_from}

-- One reading after another: the first fault stands.
infixl 10 ◌>>=◌
abbrev pub ◌>>=◌ : {A B : Type 0} → Result A SectionError → (A → Result B SectionError)
    → Result B SectionError
(Ok x) >>= f = f x
(Err fault) >>= f = Err fault

-- A fault of the wire form keeps its place.
abbrev pub fault_of : WireError → SectionError
fault_of (wire_error.Cut at) = Wire at
fault_of (wire_error.LongVarint at) = Wire at
fault_of (wire_error.BadTag at) = Wire at
fault_of (wire_error.Group at) = Wire at
fault_of wire_error.Memory = Memory

-- What is made of a message's fields, unless a fault of the wire form ends them.
abbrev pub unless_cut_off : {A : Type 0} → Option WireError → Result A SectionError
    → Result A SectionError
unless_cut_off None made = made
unless_cut_off (Some fault) made = Err (fault_of fault)

abbrev pub made_of : {A : Type 0} → (List WireField → Result A SectionError) → Fields
    → Result A SectionError
made_of made all = unless_cut_off all.fault (made all.fields)

-- The bytes of a text, which are UTF-8: the longest prefix of them that is UTF-8 is all of them.
unfoldable pub text_of : WireSpan → Result (List ℕ) SectionError
text_of span = if utf8_valid_len span.bytes == length span.bytes then Ok span.bytes else Err
    (NameNotText span.start)

-- A message of numbers, made of the last number of each field, or 0.
abbrev pub numbers_in : {A : Type 0} → ((ℕ → ℕ) → A) → List WireField → Result A SectionError
numbers_in made fields = Ok (made (λ number. u64_of number fields))

-- The header whose body stands at a place.
unfoldable pub header_at : ℕ → List ℕ → Result Header SectionError
header_at at body = made_of (numbers_in header_from) (fields_of at body)

unfoldable pub chunk_header_at : ℕ → List ℕ → Result ChunkHeader SectionError
chunk_header_at at body = made_of (numbers_in chunk_header_from) (fields_of at body)

-- A channel of these parts: its name is looked at before its type.
abbrev pub channel_of : WireSpan → WireSpan → WireSpan → Result Channel SectionError
channel_of name message_type proto_desc = do
  name ← text_of name
  message_type ← text_of message_type
  Ok (record { name = name; message_type = message_type; proto_desc = proto_desc.bytes })

-- A channel whose fields begin with this number.
unfoldable pub channel_in : ℕ → List WireField → Result Channel SectionError
channel_in first fields =
    channel_of (span_of first fields) (span_of (first + 1) fields) (span_of (first + 2) fields)

unfoldable pub channel_at : ℕ → List ℕ → Result Channel SectionError
channel_at at body = made_of (channel_in 1) (fields_of at body)

-- A message of a chunk's body, and the place of its content.
pub record PlacedMessage : Type 0 where
  pub message : BodyMessage
  pub content_at : ℕ

unfoldable pub message_in : List WireField → Result PlacedMessage SectionError
message_in fields = do
  name ← text_of (span_of 1 fields)
  Ok (record {
    message = record { channel_name = name; time = u64_of 2 fields; content = bytes_of 3 fields };
    content_at = (span_of 3 fields).start;
  })

unfoldable pub message_at : WireSpan → Result PlacedMessage SectionError
message_at span = made_of message_in (fields_of span.start span.bytes)

-- The messages of a chunk's body, in order, and the fault that ends them, if there is one.
pub record Messages : Type 0 where
  pub messages : List PlacedMessage
  pub fault : Option SectionError

abbrev pub no_message : Option SectionError → Messages
no_message fault = record { messages = []; fault = fault }

abbrev pub with_message : PlacedMessage → Messages → Messages
with_message message rest = record { messages = message ∷ rest.messages; fault = rest.fault }

-- A message, or the fault in its place, and the messages behind it.
abbrev pub and_those_behind : Result PlacedMessage SectionError → Messages → Messages
and_those_behind (Ok message) behind = with_message message behind
and_those_behind (Err fault) behind = no_message (Some fault)

abbrev pub messages_in : Option WireError → List WireSpan → Messages
messages_in fault [] = no_message (option_map fault_of fault)
messages_in fault (span ∷ rest) = and_those_behind (message_at span) (messages_in fault rest)

-- The messages are the embedded messages of field 1.
unfoldable pub messages_of : Fields → Messages
messages_of all = messages_in all.fault (spans_of 1 all.fields)

-- A list, unless a fault ends it.
abbrev pub unless_fault : {A : Type 0} → Option SectionError → A → Result A SectionError
unless_fault None made = Ok made
unless_fault (Some fault) made = Err fault

unfoldable pub chunk_body_at : ℕ → List ℕ → Result (List BodyMessage) SectionError
chunk_body_at at body = let all = messages_of (fields_of at body) in unless_fault all.fault
    (map (λ m. m.message) all.messages)

-- What an entry of the index keeps of a channel: the number of its messages, and then the channel's
-- fields.
unfoldable pub channel_cache_at : WireSpan → Result ChannelCache SectionError
channel_cache_at span = do
  channel ← made_of (channel_in 2) (fields_of span.start span.bytes)
  Ok (record {
    message_number = u64_of 1 (fields_of span.start span.bytes).fields;
    name = channel.name;
    message_type = channel.message_type;
    proto_desc = channel.proto_desc;
  })

unfoldable pub chunk_header_cache_at : WireSpan → Result ChunkHeaderCache SectionError
chunk_header_cache_at span =
    made_of (numbers_in chunk_header_cache_from) (fields_of span.start span.bytes)

unfoldable pub chunk_body_cache_at : WireSpan → Result ChunkBodyCache SectionError
chunk_body_cache_at span =
    made_of (numbers_in chunk_body_cache_from) (fields_of span.start span.bytes)

-- A part that may be missing.
abbrev pub if_given : {A : Type 0} → (WireSpan → Result A SectionError) → Option WireSpan
    → Result (Option A) SectionError
if_given read None = Ok None
if_given read (Some span) = do
  part ← read span
  Ok (Some part)

-- An entry of the index. Which cache of a kind counts is known once all its fields were read; then
-- the caches are looked at, in the order of their numbers.
unfoldable pub entry_in : List WireField → Result IndexEntry SectionError
entry_in fields = do
  channel ← if_given channel_cache_at (last_span 101 fields)
  header ← if_given chunk_header_cache_at (last_span 102 fields)
  body ← if_given chunk_body_cache_at (last_span 103 fields)
  Ok (record {
    kind = u32_of 1 fields;
    position = u64_of 2 fields;
    channel_cache = channel;
    chunk_header_cache = header;
    chunk_body_cache = body;
  })

unfoldable pub entry_at : WireSpan → Result IndexEntry SectionError
entry_at span = made_of entry_in (fields_of span.start span.bytes)

-- The entries of an index, in order: the first fault stands.
abbrev pub entries_in : Option WireError → List WireSpan → Result (List IndexEntry) SectionError
entries_in fault [] = unless_cut_off fault (Ok [])
entries_in fault (span ∷ rest) = do
  entry ← entry_at span
  entries ← entries_in fault rest
  Ok (entry ∷ entries)

-- The entries are the embedded messages of field 1.
unfoldable pub entries_of : Fields → Result (List IndexEntry) SectionError
entries_of all = entries_in all.fault (spans_of 1 all.fields)

abbrev pub index_at : ℕ → List ℕ → Result (List IndexEntry) SectionError
index_at at body = entries_of (fields_of at body)

-- The number of a field, by its field number, in place of the one before it; all others stay.
abbrev pub KeepsNumber : List ℕ → List ℕ → WireField → Type 0
KeepsNumber old new field = EachIndex new (λ number. slice_index new number
    ≡ unwrap_or (number_in number field) (slice_index old number))

-- The last number of each field, by the field's number.
abbrev pub ReadsNumbers : Result (List ℕ) SectionError → Fields → Type 0
ReadsNumbers (Ok numbers) all = (all.fault ≡ None)
    × EachIndex numbers (λ number. slice_index numbers number ≡ u64_of number all.fields)
ReadsNumbers (Err fault) all = option_map fault_of all.fault ≡ Some fault
