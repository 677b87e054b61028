-- What a writer was given so far, and what it puts into its file for it.
use Rattle.std.specs.Prelude.{ℕ, ◌≡◌, ◌≤◌, if◌then◌else◌, IsTrue, List, [], ◌∷◌, ◌++◌, length, map}
use Rattle.std.specs.Prelude.{Option}
use Rattle.std.specs.List.{flat_map}
use Rattle.cy_store.specs.Files.{Files, Holds}
use Rattle.cy_section.specs.declared.types.SectionKind.TheVariants as kind
use Rattle.cy_section.specs.declared.types.BodyMessage.{BodyMessage}
use Rattle.cy_section.specs.declared.types.Channel.{Channel}
use Rattle.cy_section.specs.Section.{section, channel_body, header_section}
use Rattle.cy_section.specs.Chunks.{takes, messages_in, are_chunks}
use Rattle.cy_section.specs.RecordText.{Part, parts_of, bytes_of, chunk_header_part}
use Rattle.cy_section.specs.RecordText.{chunk_body_part, index_section, incomplete_header}
use Rattle.cy_section.specs.RecordText.{complete_header, record_bytes, names_after, IsRecordText}
use Rattle.cy_writer.specs.Writes.{placed}

-- The file's name, the channels in the order of their calls, the messages of the chunks that were
-- put, and those of the chunk that is kept.
pub record Given : Type 0 where
  pub name : List ℕ
  pub channels : List Channel
  pub closed : List (List BodyMessage)
  pub gathered : List BodyMessage

abbrev pub nothing_given : List ℕ → Given
nothing_given name = record { name = name; channels = []; closed = []; gathered = [] }

abbrev pub with_channel : Given → Channel → Given
with_channel g c = record g { channels = g.channels ++ c ∷ [] }

-- The kept chunk is put, and another one begins.
abbrev pub with_chunk : Given → Given
with_chunk g = record g { closed = g.closed ++ g.gathered ∷ []; gathered = [] }

-- A message stands in the kept chunk if that takes it, and else in the next one.
abbrev pub with_message : Given → BodyMessage → Given
with_message g m = if takes g.gathered m then record g {
  gathered = g.gathered ++ m
      ∷ [];
} else record (with_chunk g) { gathered = m ∷ [] }

-- A message on a channel.
abbrev pub message_on : Channel → ℕ → List ℕ → BodyMessage
message_on c time content = record { channel_name = c.name; time = time; content = content }

-- All chunks: an empty one is none.
abbrev pub kept_chunk : List BodyMessage → List (List BodyMessage)
kept_chunk [] = []
kept_chunk (m ∷ rest) = (m ∷ rest) ∷ []

abbrev pub chunks_of : Given → List (List BodyMessage)
chunks_of g = g.closed ++ kept_chunk g.gathered

abbrev pub messages_of : Given → List BodyMessage
messages_of g = messages_in (chunks_of g)

-- The bytes that the file has by now: the header of a record that is still being written, the
-- channels and the chunks put.
abbrev pub front_of : Given → List ℕ
front_of g = header_section incomplete_header ++ bytes_of (parts_of g.channels g.closed)

-- How long the header of a chunk of these messages is; there is none of no message.
abbrev pub header_room : List BodyMessage → ℕ
header_room [] = 0
header_room (m ∷ rest) = length (chunk_header_part (m ∷ rest)).bytes

-- A file's bytes as a writer leaves them: what it has put, and behind that at most so much as the
-- header of a chunk of the first of the messages that are kept. It stands there where memory ran
-- out before that chunk's body; the next section is put over it.
pub record IsAsLeft (g : Given) (bytes : List ℕ) : Type 0 where
  pub rest : List ℕ
  pub split : bytes ≡ front_of g ++ rest
  pub first : List BodyMessage
  pub later : List BodyMessage
  pub kept : first ++ later ≡ g.gathered
  pub short : length rest ≤ header_room first

-- The file is as the writer left it, in a store that tells its files.
abbrev pub IsLeft : Given → Option Files → Type 0
IsLeft g files = Holds files g.name (IsAsLeft g)

-- What is put when a writer starts: the header of a record that is still being written.
abbrev pub start_puts : List (ℕ × List ℕ)
start_puts = (0, header_section incomplete_header) ∷ []

-- What is put for a channel: its section.
abbrev pub channel_puts : Given → Channel → List (ℕ × List ℕ)
channel_puts g c = (length (front_of g), section kind.Channel (channel_body c)) ∷ []

-- The two sections of a chunk.
abbrev pub chunk_parts : List BodyMessage → List Part
chunk_parts chunk = chunk_header_part chunk ∷ chunk_body_part chunk ∷ []

abbrev pub sections_of : List Part → List (List ℕ)
sections_of parts = map (λ (part : Part). part.bytes) parts

abbrev pub chunk_puts : Given → List (ℕ × List ℕ)
chunk_puts g = placed (length (front_of g)) (sections_of (chunk_parts g.gathered))

-- What is put for a message: the kept chunk, where that doesn't take it.
abbrev pub message_puts : Given → BodyMessage → List (ℕ × List ℕ)
message_puts g m = if takes g.gathered m then [] else chunk_puts g

-- What is put when a writer is closed: the last chunk, the index, and the complete header over the
-- first one.
abbrev pub close_puts : Given → List (ℕ × List ℕ)
close_puts g =
    placed (length (front_of g)) (sections_of (flat_map chunk_parts (kept_chunk g.gathered))
    ++ index_section (parts_of g.channels (chunks_of g)) ∷ [])
    ++ (0, header_section (complete_header g.channels (chunks_of g))) ∷ []

-- The chunks end where they have to, and none was begun that has no message yet.
pub record IsCut (g : Given) : Type 0 where
  pub chunks : IsTrue (are_chunks (chunks_of g))
  pub begun : g.gathered ≡ [] → g.closed ≡ []

-- The text of what was given: the record of its channels and its chunks. Where the chunks end where
-- they have to, and the channels were given in the order of their first messages, each with a
-- message, it is the record text of the messages.
pub record IsTextOf (g : Given) (bytes : List ℕ) : Type 0 where
  pub text : bytes ≡ record_bytes g.channels (chunks_of g)
  pub record_text : IsCut g → map (λ (c : Channel). c.name) g.channels ≡ names_after []
      (messages_of g) → IsRecordText g.channels (messages_of g) bytes
