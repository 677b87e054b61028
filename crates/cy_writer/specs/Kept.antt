-- What a writer keeps of the sections that it has put, and of the chunk that it gathers.
use Rattle.std.specs.Prelude.{ℕ, ◌≡◌, ◌+◌, List, [], ◌∷◌, length, drop, Some, None}
use Rattle.cy_section.specs.declared.types.SectionKind.TheVariants as kind
use Rattle.cy_section.specs.declared.types.BodyMessage.{BodyMessage}
use Rattle.cy_section.specs.declared.types.Channel.{Channel}
use Rattle.cy_section.specs.declared.types.ChannelCache.{ChannelCache}
use Rattle.cy_section.specs.declared.types.IndexEntry.{IndexEntry}
use Rattle.cy_section.specs.Section.{section, channel_body, chunk_body, kind_number}
use Rattle.cy_section.specs.RecordText.{chunk_header_of, chunk_header_part, chunk_body_part}
use Rattle.cy_section.specs.RecordText.{count_on}
use Rattle.cy_writer.specs.declared.kept.KeptChannel.{KeptChannel}
use Rattle.cy_writer.specs.declared.kept.KeptChunk.{KeptChunk}
use Rattle.cy_writer.specs.declared.chunk.Chunk.{Chunk}

-- What the index will have of a channel, in a file of these messages.
abbrev pub cache_of : List BodyMessage → Channel → ChannelCache
cache_of messages c = record {
  message_number = count_on c.name messages;
  name = c.name;
  message_type = c.message_type;
  proto_desc = c.proto_desc;
}

-- The channels that were put from a place on.
abbrev pub kept_channels : ℕ → List BodyMessage → List Channel → List KeptChannel
kept_channels at messages [] = []
kept_channels at messages (c ∷ rest) =
    record { position = at; cache = cache_of messages c }
    ∷ kept_channels (at + length (section kind.Channel (channel_body c))) messages rest

-- The chunks that were put from a place on.
abbrev pub kept_chunks : ℕ → List (List BodyMessage) → List KeptChunk
kept_chunks at [] = []
kept_chunks at (chunk ∷ rest) =
    let body_at = at + length (chunk_header_part chunk).bytes in
    record { header_position = at; body_position = body_at; header = chunk_header_of chunk }
    ∷ kept_chunks (body_at + length (chunk_body_part chunk).bytes) rest

-- The entries of the index.
abbrev pub channel_entry : KeptChannel → IndexEntry
channel_entry k = record {
  kind = kind_number kind.Channel;
  position = k.position;
  channel_cache = Some k.cache;
  chunk_header_cache = None;
  chunk_body_cache = None;
}

abbrev pub header_entry : KeptChunk → IndexEntry
header_entry k = record {
  kind = kind_number kind.ChunkHeader;
  position = k.header_position;
  channel_cache = None;
  chunk_header_cache = Some record {
    message_number = k.header.message_number;
    begin_time =
        k.header.begin_time;
    end_time = k.header.end_time;
    raw_size = k.header.raw_size;
  };
  chunk_body_cache = None;
}

abbrev pub body_entry : KeptChunk → IndexEntry
body_entry k = record {
  kind = kind_number kind.ChunkBody;
  position = k.body_position;
  channel_cache = None;
  chunk_header_cache = None;
  chunk_body_cache = Some record { message_number = k.header.message_number };
}

-- The first message has a time.
abbrev pub BeginsAt : ℕ → List BodyMessage → Type 0
BeginsAt time messages = (m : BodyMessage) (rest : List BodyMessage) → messages ≡ m ∷ rest
    → time ≡ m.time

-- These messages were gathered: the header tells of them, and the section has them behind the place
-- for its head.
pub record IsChunkOf (c : Chunk) (messages : List BodyMessage) : Type 0 where
  pub header : c.header ≡ chunk_header_of messages
  pub first : BeginsAt c.first_time messages
  pub body : drop 16 c.section ≡ chunk_body messages
