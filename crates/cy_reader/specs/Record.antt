-- What a record's file holds: its channels and messages, or the first fault or passed limit.
use Rattle.std.specs.Prelude.{ℕ, ◌≤◌, ◌+◌, nat_lt, ◌==◌, not, ◌||◌, true, false, if◌then◌else◌}
use Rattle.std.specs.Prelude.{List, [], ◌∷◌, ◌++◌, length, take, drop, set, sum_by, slice_get}
use Rattle.std.specs.Prelude.{Option, Some, None, unwrap_or, Result, Ok, Err}
use Rattle.std.specs.List.{position}
use Rattle.std.specs.Str.{bytes_eq}
use Rattle.std.specs.Int.{w64, cast_signed}
use Rattle.byteorder.specs.Endian.{little_number}
use Rattle.cy_wire.specs.Field.{fields_of}
use Rattle.cy_store.specs.declared.error.StoreError.{StoreError}
use Rattle.cy_store.specs.declared.error.StoreError.TheVariants as store_error
use Rattle.cy_section.specs.declared.error.SectionError.{SectionError}
use Rattle.cy_section.specs.declared.error.SectionError.TheVariants as fault
use Rattle.cy_section.specs.declared.types.SectionKind.{SectionKind}
use Rattle.cy_section.specs.declared.types.SectionKind.TheVariants as kind
use Rattle.cy_section.specs.declared.types.Channel.{Channel}
use Rattle.cy_section.specs.declared.types.Header.{Header}
use Rattle.cy_section.specs.Reading.{PlacedMessage, header_at, chunk_header_at, channel_at}
use Rattle.cy_section.specs.Reading.{messages_of}
use Rattle.cy_reader.specs.declared.error.LoadError.{LoadError}
use Rattle.cy_reader.specs.declared.error.LoadError.TheVariants.{NotRecord, Section, Compressed}
use Rattle.cy_reader.specs.declared.error.LoadError.TheVariants.{FileTooLarge, ContentTooLarge}
use Rattle.cy_reader.specs.declared.error.LoadError.TheVariants.{NameTooLong, ChannelsTooLarge}
use Rattle.cy_reader.specs.declared.error.LoadError.TheVariants.{TooManyChannels, Store, Memory}
use Rattle.cy_reader.specs.declared.known.Known.{Known}
use Rattle.cy_cut.specs.declared.heads.PlacedHead.{PlacedHead}
use Rattle.cy_cut.specs.Sections.{WholeSection, sections_from, header_end, longest_file}
use Rattle.cy_cut.specs.Heads.{PlacedIndex, heads_of, index_of}

-- The limits: of a message's content, of a channel's name, of all names, types and descriptions
-- together, in bytes; and of the number of channels.
abbrev pub longest_content : ℕ
longest_content = 268435456

abbrev pub longest_name : ℕ
longest_name = 4096

abbrev pub largest_channels : ℕ
largest_channels = 268435456

abbrev pub most_channels : ℕ
most_channels = 1024

-- One reading after another: the first fault or limit stands.
infixl 10 ◌>>=◌
abbrev pub ◌>>=◌ : {A B : Type 0} → Result A LoadError → (A → Result B LoadError)
    → Result B LoadError
(Ok x) >>= f = f x
(Err e) >>= f = Err e

-- A section's fault is the record's.
abbrev pub fault_of : SectionError → LoadError
fault_of (fault.Cut at) = Section (fault.Cut at)
fault_of (fault.Kind at value) = Section (fault.Kind at value)
fault_of (fault.Size at value) = Section (fault.Size at value)
fault_of (fault.TooLong at value) = Section (fault.TooLong at value)
fault_of (fault.Wire at) = Section (fault.Wire at)
fault_of (fault.NameNotText at) = Section (fault.NameNotText at)
fault_of fault.Memory = Memory

-- And a store's.
abbrev pub store_fault : StoreError → LoadError
store_fault store_error.Failed = Store
store_fault store_error.Memory = Memory

abbrev pub of_section : {A : Type 0} → Result A SectionError → Result A LoadError
of_section (Ok x) = Ok x
of_section (Err fault) = Err (fault_of fault)

-- A message: the number of its channel, its time and its content.
pub record Message : Type 0 where
  pub channel : ℕ
  pub time : ℕ
  pub content : List ℕ

-- What was met so far: the channels in the order of their first mention, and the messages.
pub record Met : Type 0 where
  pub channels : List Known
  pub messages : List Message

-- The bytes of a channel's name, type and description.
abbrev pub size_of : Known → ℕ
size_of k = length k.channel.name + length k.channel.message_type + length k.channel.proto_desc

-- The number of a channel's name.
abbrev pub number_of : List ℕ → List Known → Option ℕ
number_of name channels = position (λ k. bytes_eq k.channel.name name) channels

-- The limits of channels, where one was met or its section was.
abbrev pub within_limits : List Known → Result (List Known) LoadError
within_limits channels =
    if nat_lt most_channels (length channels) then Err TooManyChannels
    else (if nat_lt largest_channels (sum_by size_of channels) then Err
    (ChannelsTooLarge (sum_by size_of channels)) else Ok channels)

abbrev pub name_fits : {A : Type 0} → List ℕ → Result A LoadError → Result A LoadError
name_fits name next = if nat_lt longest_name (length name) then Err
    (NameTooLong (length name)) else next

-- A channel that only a message named so far: its type and description are empty.
abbrev pub named_only : List ℕ → Known
named_only name = record {
  channel = record { name = name; message_type = []; proto_desc = [] };
  has_section = false;
}

abbrev pub with_section : Channel → Known
with_section channel = record { channel = channel; has_section = true }

-- The channels once a message named one.
abbrev pub mentioned : List ℕ → List Known → Option ℕ → Result (List Known) LoadError
mentioned name channels (Some number) = Ok channels
mentioned name channels None = within_limits (channels ++ named_only name ∷ [])

-- The channels once a channel's section was met: of two sections with one name the first counts.
abbrev pub given_at : Channel → List Known → ℕ → Option Known → Result (List Known) LoadError
given_at channel channels number None = Ok channels
given_at channel channels number (Some known) = if known.has_section then Ok channels else
    within_limits (set channels number (with_section channel))

abbrev pub given : Channel → List Known → Option ℕ → Result (List Known) LoadError
given channel channels None = within_limits (channels ++ with_section channel ∷ [])
given channel channels (Some number) = given_at channel channels number (slice_get channels number)

unfoldable pub channel_given : Channel → List Known → Result (List Known) LoadError
channel_given channel channels = name_fits channel.name
    (given channel channels (number_of channel.name channels))

unfoldable pub name_mentioned : List ℕ → List Known → Result (List Known) LoadError
name_mentioned name channels = name_fits name (mentioned name channels (number_of name channels))

unfoldable pub channel_met : Channel → Met → Result Met LoadError
channel_met channel contents = do
  channels ← channel_given channel contents.channels
  Ok (record { channels = channels; messages = contents.messages })

-- A message, and what was met with it.
abbrev pub content_fits : {A : Type 0} → List ℕ → Result A LoadError → Result A LoadError
content_fits content next = if nat_lt longest_content (length content) then Err
    (ContentTooLarge (length content)) else next

abbrev pub numbered : PlacedMessage → List Known → Message
numbered m channels = record {
  channel = unwrap_or (number_of m.message.channel_name channels) 0;
  time = m.message.time;
  content = m.message.content;
}

unfoldable pub add_message : PlacedMessage → Met → Result Met LoadError
add_message m contents = do
  channels ← name_mentioned m.message.channel_name contents.channels
  content_fits m.message.content
      (Ok (record {
        channels = channels;
        messages = contents.messages ++ numbered m channels
            ∷ [];
      }))

abbrev pub messages_met : List PlacedMessage → Met → Result Met LoadError
messages_met [] contents = Ok contents
messages_met (m ∷ rest) contents = add_message m contents >>= messages_met rest

-- The messages of a body, unless a fault ends them: it comes before any limit of the section.
abbrev pub add_body : Option SectionError → List PlacedMessage → Met
    → Result Met LoadError
add_body None messages contents = messages_met messages contents
add_body (Some fault) messages contents = Err (fault_of fault)

-- A section: its own faults come first. Chunk headers are read and not needed.
abbrev pub section_of : SectionKind → ℕ → List ℕ → Met → Result Met LoadError
section_of kind.ChunkHeader at body contents = of_section (chunk_header_at at body) >>=
    λ _. Ok contents
section_of kind.ChunkBody at body contents = let all = messages_of
    (fields_of at body) in add_body all.fault all.messages contents
section_of kind.Channel at body contents = of_section (channel_at at body) >>=
    λ channel. channel_met channel contents
section_of kind.Header at body contents = Ok contents
section_of kind.Index at body contents = Ok contents

unfoldable pub add_section : WholeSection → Met → Result Met LoadError
add_section s contents = section_of s.kind s.body_at s.body contents

abbrev pub add_sections : List WholeSection → Option SectionError → Met
    → Result Met LoadError
add_sections [] None contents = Ok contents
add_sections [] (Some fault) contents = Err (fault_of fault)
add_sections (s ∷ rest) fault contents = add_section s contents >>= add_sections rest fault

-- The file's header. Its fields take as many bytes of its section as its head says.
abbrev pub uncompressed : Header → Result Header LoadError
uncompressed header = if header.compress == 0 then Ok header else Err (Compressed header.compress)

-- The header whose fields take so many bytes.
abbrev pub fields_header : List ℕ → ℕ → Result Header LoadError
fields_header file size = of_section (header_at 16 (take size (drop 16 file))) >>= uncompressed

abbrev pub sized_header : List ℕ → ℕ → Result Header LoadError
sized_header file size =
    if nat_lt 2048 size then Err (Section (fault.Size 0 (cast_signed w64 size)))
    else (if nat_lt (length file) header_end then Err (Section (fault.Cut 0))
    else fields_header file size)

unfoldable pub file_header : List ℕ → Result Header LoadError
file_header file =
    if nat_lt longest_file (length file) then Err (FileTooLarge (length file))
    else (if nat_lt (length file) 16 || not (little_number 4 file == 0) then Err NotRecord
    else sized_header file (little_number 8 (drop 8 file)))

-- A file that has all bytes of a header's section, and is not too long.
pub record HasLength (file : List ℕ) : Type 0 where
  pub long : header_end ≤ length file
  pub short : length file ≤ longest_file

abbrev pub nothing : Met
nothing = record { channels = []; messages = [] }

-- The header of a file, and what was met behind it.
unfoldable pub parts_of : List ℕ → Result (Header × Met) LoadError
parts_of file = do
  header ← file_header file
  let all = sections_from file header_end
  met ← add_sections all.sections all.fault nothing
  Ok (header, met)

-- The file of a record: its name, its length in bytes, its header, the head of each section that
-- was read, and its index, if it has one.
pub record Source : Type 0 where
  pub name : List ℕ
  pub size : ℕ
  pub header : Header
  pub heads : List PlacedHead
  pub index : Option PlacedIndex

unfoldable pub source_of : List ℕ → List ℕ → Header → Source
source_of name file header = record {
  name = name;
  size = length file;
  header = header;
  heads = heads_of file header_end;
  index = index_of file header_end;
}

-- What a record shows: its channels and messages, and of its file what is told beside them.
pub record Contents : Type 0 where
  pub channels : List Known
  pub messages : List Message
  pub source : Source

abbrev pub shown : Source → Met → Contents
shown source met = record { channels = met.channels; messages = met.messages; source = source }

-- What the file of a name holds.
unfoldable pub record_of : List ℕ → List ℕ → Result Contents LoadError
record_of name file = do
  parts ← parts_of file
  Ok (shown (source_of name file parts.0) parts.1)
