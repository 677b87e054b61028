-- What is written of a section is read of it: the laws, and the bounds that they need.
use Rattle.std.specs.Prelude.{◌≡◌, ℕ, ◌<◌, ◌^◌, ◌++◌, List, length, Ok, IfSome}
use Rattle.std.specs.List.{AllByRecursion}
use Rattle.cy_wire.specs.Wire.{field_u64, field_bytes}
use Rattle.cy_section.specs.declared.types.BodyMessage.{BodyMessage}
use Rattle.std.specs.Str.{IsUtf8}
use Rattle.cy_section.specs.declared.types.Header.{Header}
use Rattle.cy_section.specs.declared.types.ChunkHeader.{ChunkHeader}
use Rattle.cy_section.specs.declared.types.Channel.{Channel}
use Rattle.cy_section.specs.declared.types.ChannelCache.{ChannelCache}
use Rattle.cy_section.specs.declared.types.ChunkHeaderCache.{ChunkHeaderCache}
use Rattle.cy_section.specs.declared.types.ChunkBodyCache.{ChunkBodyCache}
use Rattle.cy_section.specs.declared.types.IndexEntry.{IndexEntry}
use Rattle.cy_section.specs.declared.types.SectionKind.{SectionKind}
use Rattle.cy_section.specs.Rows.{Fit, header_rows, chunk_header_rows, chunk_header_cache_rows}
use Rattle.cy_section.specs.Rows.{chunk_body_cache_rows}
use Rattle.cy_section.specs.Section.{header_body, chunk_header_body, chunk_body, channel_body}
use Rattle.cy_section.specs.Section.{head_bytes, optional_field, channel_cache_body}
use Rattle.cy_section.specs.Section.{chunk_header_cache_body, chunk_body_cache_body, index_body}
use Rattle.cy_section.specs.Head.{head_at}
use Rattle.cy_section.specs.Reading.{header_at, chunk_header_at, chunk_body_at}
use Rattle.cy_section.specs.Reading.{channel_at, index_at}

-- Numbers of 32 bits, and of 64, as the rows have them.
abbrev pub HeaderFits : Header → Type 0
HeaderFits h = Fit (header_rows h)

abbrev pub ChunkHeaderFits : ChunkHeader → Type 0
ChunkHeaderFits c = Fit (chunk_header_rows c)

abbrev pub ChunkHeaderCacheFits : ChunkHeaderCache → Type 0
ChunkHeaderCacheFits c = Fit (chunk_header_cache_rows c)

abbrev pub ChunkBodyCacheFits : ChunkBodyCache → Type 0
ChunkBodyCacheFits c = Fit (chunk_body_cache_rows c)

-- Texts, and bytes whose number has 64 bits.
pub record ChannelFits (c : Channel) : Type 0 where
  pub name : length c.name < 2 ^ 64
  pub message_type : length c.message_type < 2 ^ 64
  pub proto_desc : length c.proto_desc < 2 ^ 64
  pub name_is_text : IsUtf8 c.name
  pub type_is_text : IsUtf8 c.message_type

-- The fields of a message.
abbrev pub message_bytes : BodyMessage → List ℕ
message_bytes m = field_bytes 1 m.channel_name ++ field_u64 2 m.time ++ field_bytes 3 m.content

-- A text, a number of 64 bits, and bytes whose number has 64 bits, as the whole message's has.
pub record MessageFits (m : BodyMessage) : Type 0 where
  pub name : length m.channel_name < 2 ^ 64
  pub time : m.time < 2 ^ 64
  pub content : length m.content < 2 ^ 64
  pub whole : length (message_bytes m) < 2 ^ 64
  pub name_is_text : IsUtf8 m.channel_name

-- Numbers of 64 bits, texts, and bytes whose number has 64 bits, as the whole cache's has.
pub record ChannelCacheFits (c : ChannelCache) : Type 0 where
  pub message_number : c.message_number < 2 ^ 64
  pub name : length c.name < 2 ^ 64
  pub message_type : length c.message_type < 2 ^ 64
  pub proto_desc : length c.proto_desc < 2 ^ 64
  pub whole : length (channel_cache_body c) < 2 ^ 64
  pub name_is_text : IsUtf8 c.name
  pub type_is_text : IsUtf8 c.message_type

-- The fields of an entry.
abbrev pub entry_bytes : IndexEntry → List ℕ
entry_bytes e =
    field_u64 1 e.kind ++ field_u64 2 e.position
    ++ optional_field 101 channel_cache_body e.channel_cache
    ++ optional_field 102 chunk_header_cache_body e.chunk_header_cache
    ++ optional_field 103 chunk_body_cache_body e.chunk_body_cache

-- An entry, whatever caches it has.
pub record EntryFits (e : IndexEntry) : Type 0 where
  pub kind : e.kind < 2 ^ 32
  pub position : e.position < 2 ^ 64
  pub channel_cache : IfSome e.channel_cache ChannelCacheFits
  pub chunk_header_cache : IfSome e.chunk_header_cache ChunkHeaderCacheFits
  pub chunk_body_cache : IfSome e.chunk_body_cache ChunkBodyCacheFits
  pub whole : length (entry_bytes e) < 2 ^ 64

-- A head that was written is read, whatever follows it. Its size is a signed number's.
abbrev pub HeadReadsBack : Type 0
HeadReadsBack = (at size : ℕ) (kind : SectionKind) (rest : List ℕ) → size < 2 ^ 63
    → head_at at (head_bytes kind size ++ rest) ≡ Ok (record { kind = kind; size = size })

-- A header that was written is read.
abbrev pub HeaderReadsBack : Type 0
HeaderReadsBack = (at : ℕ) (h : Header) → HeaderFits h → header_at at (header_body h) ≡ Ok h

-- A chunk's header that was written is read.
abbrev pub ChunkHeaderReadsBack : Type 0
ChunkHeaderReadsBack = (at : ℕ) (c : ChunkHeader) → ChunkHeaderFits c
    → chunk_header_at at (chunk_header_body c) ≡ Ok c

-- And a channel.
abbrev pub ChannelReadsBack : Type 0
ChannelReadsBack = (at : ℕ) (c : Channel) → ChannelFits c → channel_at at (channel_body c) ≡ Ok c

-- And the messages of a chunk.
abbrev pub ChunkBodyReadsBack : Type 0
ChunkBodyReadsBack = (at : ℕ) (ms : List BodyMessage) → AllByRecursion MessageFits ms
    → chunk_body_at at (chunk_body ms) ≡ Ok ms

-- And the entries of an index.
abbrev pub IndexReadsBack : Type 0
IndexReadsBack = (at : ℕ) (entries : List IndexEntry) → AllByRecursion EntryFits entries
    → index_at at (index_body entries) ≡ Ok entries

-- All of them.
pub record SectionsReadBack : Type 0 where
  pub head : HeadReadsBack
  pub header : HeaderReadsBack
  pub chunk_header : ChunkHeaderReadsBack
  pub channel : ChannelReadsBack
  pub chunk_body : ChunkBodyReadsBack
  pub index : IndexReadsBack
