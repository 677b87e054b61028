-- The bytes of each section of a record: a head of 16 bytes and a body in the wire form, every
-- field written in number order.
use Rattle.std.specs.Prelude.{ℕ, ◌-◌, List, [], ◌++◌, length, replicate, Option, Some, None}
use Rattle.std.specs.List.{flat_map}
use Rattle.byteorder.specs.Endian.{little_bytes}
use Rattle.cy_wire.specs.Wire.{field_u64, field_bytes}
use Rattle.cy_section.specs.declared.types.SectionKind.{SectionKind}
use Rattle.cy_section.specs.declared.types.SectionKind.TheVariants as kind
use Rattle.cy_section.specs.declared.types.Header.{Header}
use Rattle.cy_section.specs.declared.types.ChunkHeader.{ChunkHeader}
use Rattle.cy_section.specs.declared.types.BodyMessage.{BodyMessage}
use Rattle.cy_section.specs.declared.types.Channel.{Channel}
use Rattle.cy_section.specs.declared.types.ChannelCache.{ChannelCache}
use Rattle.cy_section.specs.declared.types.ChunkHeaderCache.{ChunkHeaderCache}
use Rattle.cy_section.specs.declared.types.ChunkBodyCache.{ChunkBodyCache}
use Rattle.cy_section.specs.declared.types.IndexEntry.{IndexEntry}
use Rattle.cy_section.specs.Rows.{numbers_body, numbered, header_rows, chunk_header_rows}
use Rattle.cy_section.specs.Rows.{chunk_header_cache_rows, chunk_body_cache_rows}

-- The number of a section's type.
abbrev pub kind_number : SectionKind → ℕ
kind_number kind.Header = 0
kind_number kind.ChunkHeader = 1
kind_number kind.ChunkBody = 2
kind_number kind.Index = 3
kind_number kind.Channel = 4

-- The head: the type in four bytes, four bytes of padding, and the body's length in eight,
-- little-endian.
abbrev pub head_bytes : SectionKind → ℕ → List ℕ
head_bytes k size = little_bytes 4 (kind_number k) ++ little_bytes 4 0 ++ little_bytes 8 size

-- A head and its body.
unfoldable pub section : SectionKind → List ℕ → List ℕ
section k body = head_bytes k (length body) ++ body

-- The header's fields.
unfoldable pub header_body : Header → List ℕ
header_body h = numbers_body (numbered (header_rows h))

-- The header section, with the zeros that follow it up to byte 2064.
unfoldable pub header_section : Header → List ℕ
header_section h = section kind.Header (header_body h)
    ++ replicate (2048 - length (header_body h)) 0

unfoldable pub chunk_header_body : ChunkHeader → List ℕ
chunk_header_body c = numbers_body (numbered (chunk_header_rows c))

-- A message as one field of a chunk's body.
unfoldable pub message_field : BodyMessage → List ℕ
message_field m = field_bytes 1 (field_bytes 1 m.channel_name ++ field_u64 2 m.time
    ++ field_bytes 3 m.content)

abbrev pub chunk_body : List BodyMessage → List ℕ
chunk_body messages = flat_map message_field messages

unfoldable pub channel_body : Channel → List ℕ
channel_body c = field_bytes 1 c.name ++ field_bytes 2 c.message_type ++ field_bytes 3 c.proto_desc

unfoldable pub channel_cache_body : ChannelCache → List ℕ
channel_cache_body c = field_u64 1 c.message_number ++ field_bytes 2 c.name
    ++ field_bytes 3 c.message_type ++ field_bytes 4 c.proto_desc

unfoldable pub chunk_header_cache_body : ChunkHeaderCache → List ℕ
chunk_header_cache_body c = numbers_body (numbered (chunk_header_cache_rows c))

unfoldable pub chunk_body_cache_body : ChunkBodyCache → List ℕ
chunk_body_cache_body c = numbers_body (numbered (chunk_body_cache_rows c))

-- A field where there is something to write.
abbrev pub optional_field : {X : Type 0} → ℕ → (X → List ℕ) → Option X → List ℕ
optional_field number body None = []
optional_field number body (Some x) = field_bytes number (body x)

-- An entry of the index as one field of its body.
unfoldable pub entry_field : IndexEntry → List ℕ
entry_field e = field_bytes 1 (field_u64 1 e.kind ++ field_u64 2 e.position
    ++ optional_field 101 channel_cache_body e.channel_cache
    ++ optional_field 102 chunk_header_cache_body e.chunk_header_cache
    ++ optional_field 103 chunk_body_cache_body e.chunk_body_cache)

abbrev pub index_body : List IndexEntry → List ℕ
index_body entries = flat_map entry_field entries
