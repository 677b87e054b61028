-- What a record's text says is read back: the laws, and the limits that they need.
use Rattle.std.specs.Prelude.{◌≡◌, ℕ, ◌+◌, ◌-◌, ◌≤◌, ◌<◌, ◌^◌, List, [], ◌∷◌, ◌++◌, length, map}
use Rattle.std.specs.Prelude.{sum_by, unwrap_or, Some, Ok}
use Rattle.std.specs.List.{AllByRecursion}
use Rattle.std.specs.Str.{IsUtf8}
use Rattle.cy_section.specs.declared.types.BodyMessage.{BodyMessage}
use Rattle.cy_section.specs.declared.types.Channel.{Channel}
use Rattle.cy_section.specs.declared.types.IndexEntry.{IndexEntry}
use Rattle.cy_section.specs.declared.types.SectionKind.TheVariants as kind
use Rattle.cy_section.specs.Section.{header_body, index_body}
use Rattle.cy_section.specs.Head.{kind_of}
use Rattle.cy_section.specs.Chunks.{messages_in}
use Rattle.cy_section.specs.RecordText.{Part, IsRecordText, parts_of, entries_from, header_end}
use Rattle.cy_section.specs.RecordText.{complete_header}
use Rattle.cy_cut.specs.declared.heads.PlacedHead.{PlacedHead}
use Rattle.cy_info.specs.declared.facts.IndexFound.TheVariants.{Present}
use Rattle.cy_cut.specs.Heads.{PlacedIndex, index_head}
use Rattle.cy_reader.specs.Record.{Message, Source, Contents, number_of, with_section, size_of}
use Rattle.cy_reader.specs.Record.{record_of, longest_name, longest_content, most_channels}
use Rattle.cy_reader.specs.Record.{largest_channels}
use Rattle.cy_cut.specs.Sections.{longest_file}
use Rattle.cy_info.specs.Info.{info_text, index_found, file_line, front_lines, index_line}
use Rattle.cy_info.specs.Info.{channel_lines, channels_of, counted_of}

-- A channel whose name and type are texts, and whose name is within its limit.
pub record IsReadableChannel (c : Channel) : Type 0 where
  pub short : length c.name ≤ longest_name
  pub name_is_text : IsUtf8 c.name
  pub type_is_text : IsUtf8 c.message_type

-- A message whose time has 64 bits, and whose content is within its limit.
pub record IsReadableMessage (m : BodyMessage) : Type 0 where
  pub time : m.time < 2 ^ 64
  pub small : length m.content ≤ longest_content

-- Channels, messages and their file within the limits of what is read.
pub record AreReadable (channels : List Channel) (messages : List BodyMessage)
    (file : List ℕ) : Type 0 where
  pub short : length file ≤ longest_file
  pub few : length channels ≤ most_channels
  pub small : sum_by size_of (map with_section channels) ≤ largest_channels
  pub each_channel : AllByRecursion IsReadableChannel channels
  pub each_message : AllByRecursion IsReadableMessage messages

-- A message as it is read: its channel is a number among these.
abbrev pub message_on : List Channel → BodyMessage → Message
message_on channels m = record {
  channel = unwrap_or (number_of m.channel_name (map with_section channels)) 0;
  time = m.time;
  content = m.content;
}

-- The heads of sections that stand one after another from a place on.
abbrev pub heads_from : ℕ → List Part → List PlacedHead
heads_from at [] = []
heads_from at (p ∷ rest) =
    record { at = at; kind = kind_of (p.entry at).kind; size = length p.bytes - 16 }
    ∷ heads_from (at + length p.bytes) rest

-- The entries of a record's index, and that index.
abbrev pub text_entries : List Channel → List (List BodyMessage) → List IndexEntry
text_entries channels chunks = entries_from header_end (parts_of channels chunks)

abbrev pub text_index : List Channel → List (List BodyMessage) → PlacedIndex
text_index channels chunks =
    let body = index_body (text_entries channels chunks) in
    record {
      at = (complete_header channels chunks).index_position;
      size = length body;
      body = body;
    }

-- What a record's text says of its file, under this name.
abbrev pub text_source : List ℕ → List Channel → List (List BodyMessage) → Source
text_source name channels chunks =
    let header = complete_header channels chunks in
    record {
      name = name;
      size = header.size;
      header = header;
      heads =
          record { at = 0; kind = kind.Header; size = length (header_body header) }
          ∷ (heads_from header_end (parts_of channels chunks)
          ++ index_head (Some (text_index channels chunks)));
      index = Some (text_index channels chunks);
    }

-- All that a record's text says: the channels that have sections, and the messages of the chunks.
abbrev pub text_contents : List ℕ → List Channel → List (List BodyMessage) → Contents
text_contents name channels chunks = record {
  channels = map with_section channels;
  messages = map (message_on channels) (messages_in chunks);
  source = text_source name channels chunks;
}

-- A record's text is read as its channels, its messages, its header and its index, whatever they
-- are and wherever its chunks end.
abbrev pub TextReadsBack : Type 0
TextReadsBack = (name file : List ℕ) (channels : List Channel) (messages : List BodyMessage)
    (text : IsRecordText channels messages file) → AreReadable channels messages file
    → record_of name file ≡ Ok (text_contents name channels text.chunks)

-- Its index is read as its entries.
abbrev pub IndexReadsBack : Type 0
IndexReadsBack = (file : List ℕ) (channels : List Channel) (messages : List BodyMessage)
    (text : IsRecordText channels messages file) → AreReadable channels messages file
    → index_found (Some (text_index channels text.chunks))
    ≡ Present (text_entries channels text.chunks)

-- And the text that tells what it is has no difference: no line follows those of its channels.
abbrev pub NothingDiffers : Type 0
NothingDiffers = (name file : List ℕ) (channels : List Channel) (messages : List BodyMessage)
    (text : IsRecordText channels messages file) → AreReadable channels messages file
    → let whole = text_contents name channels text.chunks in
    info_text whole
    ≡ file_line name (length file)
    ++ front_lines whole.source.header (counted_of whole)
    ++ index_line (Present (text_entries channels text.chunks))
    ++ channel_lines (channels_of whole.messages) whole.channels

-- All of this.
pub record RecordsReadBack : Type 0 where
  pub text : TextReadsBack
  pub index : IndexReadsBack
  pub same : NothingDiffers
