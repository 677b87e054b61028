-- What is salvaged of a file that has only the front of a record's text: the law and its needs.
use Rattle.std.specs.Prelude.{◌≡◌, ℕ, ◌+◌, ◌-◌, ◌≤◌, ◌<◌, ◌^◌, nat_lt, if◌then◌else◌, List, []}
use Rattle.std.specs.Prelude.{◌∷◌, ◌++◌, length, take, drop, map, Ok}
use Rattle.std.specs.List.{AllByRecursion, flat_map}
use Rattle.std.specs.Str.{IsUtf8}
use Rattle.cy_section.specs.declared.types.BodyMessage.{BodyMessage}
use Rattle.cy_section.specs.declared.types.Channel.{Channel}
use Rattle.cy_section.specs.Chunks.{messages_in}
use Rattle.cy_section.specs.Section.{channel_body, chunk_body}
use Rattle.cy_section.specs.RecordText.{bytes_of, channel_part, chunk_header_part}
use Rattle.cy_section.specs.RecordText.{chunk_body_part, header_end, record_bytes}
use Rattle.cy_cut.specs.Sections.{longest_section}
use Rattle.cy_reader.specs.Named.{named_messages}
use Rattle.cy_salvage.specs.Salvage.{Salvage, salvage_of}

-- A channel and a message, as a writer is given them: names and types are texts, a time has 64
-- bits. Their sections are no longer than any that is read.
pub record IsSectionOfChannel (c : Channel) : Type 0 where
  pub name_is_text : IsUtf8 c.name
  pub type_is_text : IsUtf8 c.message_type
  pub short : length (channel_body c) ≤ longest_section

pub record IsGivenMessage (m : BodyMessage) : Type 0 where
  pub name_is_text : IsUtf8 m.channel_name
  pub time : m.time < 2 ^ 64

pub record IsSectionOfChunk (chunk : List BodyMessage) : Type 0 where
  pub messages : AllByRecursion IsGivenMessage chunk
  pub short : length (chunk_body chunk) ≤ longest_section

-- A file that has, behind its header, the first bytes of a record's text behind that's: its header
-- may be any.
pub record IsFrontOf (channels : List Channel) (chunks : List (List BodyMessage))
    (file : List ℕ) : Type 0 where
  pub header : header_end ≤ length file
  pub front : drop header_end file
      ≡ take (length file - header_end) (drop header_end (record_bytes channels chunks))

-- Those of chunks whose bodies stand whole in so many bytes, where the first chunk begins at a
-- place: all up to one that doesn't.
abbrev pub chunks_within : ℕ → ℕ → List (List BodyMessage) → List (List BodyMessage)
chunks_within size at [] = []
chunks_within size at (chunk ∷ rest) =
    let end = at + length (chunk_header_part chunk).bytes + length (chunk_body_part chunk).bytes in
    if nat_lt size end then [] else chunk ∷ chunks_within size end rest

-- Where the chunks of a record begin, behind its channels.
abbrev pub chunks_at : List Channel → ℕ
chunks_at channels = header_end + length (bytes_of (map (channel_part []) channels))

-- The messages of those chunks of a record's text that stand whole in a file.
abbrev pub whole_messages : List Channel → List (List BodyMessage) → List ℕ → List BodyMessage
whole_messages channels chunks file =
    messages_in (chunks_within (length file) (chunks_at channels) chunks)

-- Of such a file the messages of the whole chunks are salvaged, and they are the first ones of the
-- text.
pub record IsSalvagedWhole (channels : List Channel) (chunks : List (List BodyMessage))
    (file : List ℕ) (s : Salvage) : Type 0 where
  pub whole : named_messages s.met ≡ whole_messages channels chunks file
  pub later : List BodyMessage
  pub front : named_messages s.met ++ later ≡ messages_in chunks

abbrev pub FrontsAreSalvaged : Type 0
FrontsAreSalvaged = (channels : List Channel) (chunks : List (List BodyMessage)) (file : List ℕ)
    (s : Salvage) → AllByRecursion IsSectionOfChannel channels
    → AllByRecursion IsSectionOfChunk chunks → IsFrontOf channels chunks file
    → salvage_of file ≡ Ok s → IsSalvagedWhole channels chunks file s
