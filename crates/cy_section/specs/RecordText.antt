-- The bytes of a whole record, for any channels and any messages.
use Rattle.std.specs.Prelude.{ℕ, ◌+◌, ◌≡◌, if◌then◌else◌, true, List, [], ◌∷◌, ◌++◌, length}
use Rattle.std.specs.Prelude.{map, sum, filter, Some, None, min, max}
use Rattle.std.specs.List.{flat_map, list_any}
use Rattle.std.specs.Str.{bytes_eq}
use Rattle.cy_section.specs.declared.types.SectionKind.TheVariants as kind
use Rattle.cy_section.specs.declared.types.Header.{Header}
use Rattle.cy_section.specs.declared.types.ChunkHeader.{ChunkHeader}
use Rattle.cy_section.specs.declared.types.BodyMessage.{BodyMessage}
use Rattle.cy_section.specs.declared.types.Channel.{Channel}
use Rattle.cy_section.specs.declared.types.IndexEntry.{IndexEntry}
use Rattle.cy_section.specs.Rows.{no_header}
use Rattle.cy_section.specs.Section.{section, header_section, channel_body, chunk_header_body}
use Rattle.cy_section.specs.Section.{chunk_body, index_body, kind_number}
use Rattle.cy_section.specs.Chunks.{AreChunksOf, messages_in, chunk_raw_size, chunk_interval}

-- The least and the greatest time of some messages, 0 where there is none.
abbrev pub least_time : List BodyMessage → ℕ
least_time [] = 0
least_time (m ∷ []) = m.time
least_time (m ∷ n ∷ rest) = min m.time (least_time (n ∷ rest))

abbrev pub greatest_time : List BodyMessage → ℕ
greatest_time [] = 0
greatest_time (m ∷ rest) = max m.time (greatest_time rest)

-- The bytes of their contents together.
abbrev pub raw_size : List BodyMessage → ℕ
raw_size messages = sum (map (λ m. length m.content) messages)

-- How many of the messages stand on a channel.
abbrev pub count_on : List ℕ → List BodyMessage → ℕ
count_on name messages = length (filter (λ m. bytes_eq m.channel_name name) messages)

abbrev pub chunk_header_of : List BodyMessage → ChunkHeader
chunk_header_of chunk = record {
  begin_time = least_time chunk;
  end_time = greatest_time chunk;
  message_number = length chunk;
  raw_size = raw_size chunk;
}

-- A section that the index names: its bytes, and its entry where its head stands at a place.
pub record Part : Type 0 where
  pub bytes : List ℕ
  pub entry : ℕ → IndexEntry

-- A channel's section, in a file of these messages.
abbrev pub channel_part : List BodyMessage → Channel → Part
channel_part messages c = record {
  bytes = section kind.Channel (channel_body c);
  entry = λ position. record {
    kind = kind_number kind.Channel;
    position = position;
    channel_cache = Some record {
      message_number = count_on c.name messages;
      name = c.name;
      message_type = c.message_type;
      proto_desc = c.proto_desc;
    };
    chunk_header_cache = None;
    chunk_body_cache = None;
  };
}

-- The two sections of a chunk.
abbrev pub chunk_header_part : List BodyMessage → Part
chunk_header_part chunk = record {
  bytes = section kind.ChunkHeader (chunk_header_body (chunk_header_of chunk));
  entry = λ position. record {
    kind = kind_number kind.ChunkHeader;
    position = position;
    channel_cache = None;
    chunk_header_cache = Some record {
      message_number = length chunk;
      begin_time = least_time chunk;
      end_time = greatest_time chunk;
      raw_size = raw_size chunk;
    };
    chunk_body_cache = None;
  };
}

abbrev pub chunk_body_part : List BodyMessage → Part
chunk_body_part chunk = record {
  bytes = section kind.ChunkBody (chunk_body chunk);
  entry = λ position. record {
    kind = kind_number kind.ChunkBody;
    position = position;
    channel_cache = None;
    chunk_header_cache = None;
    chunk_body_cache = Some record { message_number = length chunk };
  };
}

-- The sections between the header and the index: the channels, then each chunk's header and body.
abbrev pub parts_of : List Channel → List (List BodyMessage) → List Part
parts_of channels chunks =
    map (channel_part (messages_in chunks)) channels ++ flat_map (λ chunk. chunk_header_part chunk
    ∷ chunk_body_part chunk ∷ []) chunks

abbrev pub bytes_of : List Part → List ℕ
bytes_of parts = flat_map (λ p. p.bytes) parts

-- The entries of sections that stand one after another from a place on.
abbrev pub entries_from : ℕ → List Part → List IndexEntry
entries_from position [] = []
entries_from position (p ∷ rest) = p.entry position ∷ entries_from (position + length p.bytes) rest

-- Where the header section ends.
abbrev pub header_end : ℕ
header_end = 2064

abbrev pub index_section : List Part → List ℕ
index_section parts = section kind.Index (index_body (entries_from header_end parts))

-- The header of a record that is still being written: all else in it is 0, and it is not complete.
abbrev pub incomplete_header : Header
incomplete_header = record no_header {
  major_version = 1;
  chunk_interval = chunk_interval;
  chunk_raw_size = chunk_raw_size;
}

-- The header of a whole record, with the counted numbers.
abbrev pub complete_header : List Channel → List (List BodyMessage) → Header
complete_header channels chunks =
    let parts = parts_of channels chunks in
    let index_position = header_end + length (bytes_of parts) in
    record incomplete_header {
      index_position = index_position;
      chunk_number = length chunks;
      channel_number = length channels;
      begin_time = least_time (messages_in chunks);
      end_time = greatest_time (messages_in chunks);
      message_number = length (messages_in chunks);
      size = index_position + length (index_section parts);
      is_complete = true;
    }

-- The bytes of a record with these channel sections and these chunks: header, channels, chunks and
-- index.
unfoldable pub record_bytes : List Channel → List (List BodyMessage) → List ℕ
record_bytes channels chunks =
    header_section (complete_header channels chunks) ++ bytes_of (parts_of channels chunks)
    ++ index_section (parts_of channels chunks)

-- Each name once, in the order of its first mention.
abbrev pub names_after : List (List ℕ) → List BodyMessage → List (List ℕ)
names_after known [] = known
names_after known (m ∷ rest) = names_after
    (if list_any (λ n. bytes_eq n m.channel_name) known then known else known ++ m.channel_name
    ∷ []) rest

-- The record text of a list of messages whose channels have these types and descriptions: one
-- channel section for each channel in the list, in order of first message, and the chunks of the
-- list.
pub record IsRecordText (channels : List Channel) (messages : List BodyMessage)
    (bytes : List ℕ) : Type 0 where
  pub named : map (λ c. c.name) channels ≡ names_after [] messages
  pub chunks : List (List BodyMessage)
  pub cut : AreChunksOf messages chunks
  pub text : bytes ≡ record_bytes channels chunks
