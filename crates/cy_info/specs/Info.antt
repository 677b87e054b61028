-- The text that tells what a record is.
use Rattle.std.specs.Prelude.{ℕ, ◌+◌, ◌==◌, ◌&&◌, nat_lt, min, max, Bool, if◌then◌else◌, List, []}
use Rattle.std.specs.Prelude.{◌∷◌, ◌++◌, length, map, filter, codes, true}
use Rattle.std.specs.Prelude.{Option, Some, None, Result, Ok}
use Rattle.std.specs.Prelude.{Err}
use Rattle.std.specs.List.{list_any}
use Rattle.std.specs.Fmt.{decimal}
use Rattle.cy_msg.specs.Quoted.{quoted}
use Rattle.cy_section.specs.declared.error.SectionError.{SectionError}
use Rattle.cy_section.specs.declared.types.SectionKind.TheVariants as kind
use Rattle.cy_section.specs.declared.types.Header.{Header}
use Rattle.cy_section.specs.declared.types.IndexEntry.{IndexEntry}
use Rattle.cy_section.specs.Section.{kind_number}
use Rattle.cy_section.specs.Reading as reading
use Rattle.cy_reader.specs.declared.known.Known.{Known}
use Rattle.cy_cut.specs.declared.heads.PlacedHead.{PlacedHead}
use Rattle.cy_info.specs.declared.facts.Counted.{Counted}
use Rattle.cy_info.specs.declared.facts.IndexFound.{IndexFound}
use Rattle.cy_info.specs.declared.facts.IndexFound.TheVariants.{Absent, Cut, Unreadable, Present}
use Rattle.cy_cut.specs.Heads.{PlacedIndex}
use Rattle.cy_reader.specs.Record.{Message, Contents}

-- The least and the greatest of some times, 0 where there is none.
abbrev pub least : List ℕ → ℕ
least [] = 0
least (t ∷ []) = t
least (t ∷ u ∷ rest) = min t (least (u ∷ rest))

abbrev pub greatest : List ℕ → ℕ
greatest [] = 0
greatest (t ∷ rest) = max t (greatest rest)

-- The times of some messages, and the numbers of their channels.
abbrev pub times_of : List Message → List ℕ
times_of messages = map (λ m. m.time) messages

abbrev pub channels_of : List Message → List ℕ
channels_of messages = map (λ m. m.channel) messages

-- How many of the messages that stand on these channels stand on one.
abbrev pub count_on : ℕ → List ℕ → ℕ
count_on channel channels = length (filter (λ c. c == channel) channels)

-- How many of the heads are those of chunk bodies.
abbrev pub chunk_bodies : List PlacedHead → ℕ
chunk_bodies heads = length (filter (λ h. kind_number h.kind == kind_number kind.ChunkBody) heads)

-- The place of the index's head, 0 where there is no index.
abbrev pub index_place : Option PlacedIndex → ℕ
index_place None = 0
index_place (Some i) = i.at

-- What is counted of a record: the numbers that the header of a complete one has. It has this
-- index and these heads, so many channels, messages of these times, and so many bytes.
abbrev pub counted : Option PlacedIndex → List PlacedHead → ℕ → List ℕ → ℕ → Counted
counted index heads channels times size = record {
  index_position = index_place index;
  chunk_number = chunk_bodies heads;
  channel_number = channels;
  begin_time = least times;
  end_time = greatest times;
  message_number = length times;
  size = size;
}

abbrev pub counted_of : Contents → Counted
counted_of c = counted c.source.index c.source.heads (length c.channels) (times_of c.messages)
    c.source.size

-- What was found of the index: none, one that the file cuts off, one that can't be read, or its
-- entries.
abbrev pub index_read : Result (List IndexEntry) SectionError → IndexFound
index_read (Ok entries) = Present entries
index_read (Err fault) = Unreadable

abbrev pub index_found : Option PlacedIndex → IndexFound
index_found None = Absent
index_found (Some i) = if nat_lt (length i.body) i.size then Cut else index_read
    (reading.index_at (i.at + 16) i.body)

-- Whether the head of a section of this type stands at a place.
abbrev pub is_head : List PlacedHead → ℕ → ℕ → Bool
is_head heads position number =
    list_any (λ h. (h.at == position) && (kind_number h.kind == number)) heads

-- The file, and its header.
unfoldable pub file_line : List ℕ → ℕ → List ℕ
file_line name size = codes "file " ++ name ++ codes " bytes " ++ decimal size ++ codes "\n"

abbrev pub yes_or_no : Bool → List ℕ
yes_or_no b = if b then codes "yes" else codes "no"

unfoldable pub version_line : Header → List ℕ
version_line h =
    codes "version " ++ decimal h.major_version ++ codes "." ++ decimal h.minor_version
    ++ codes " complete " ++ yes_or_no h.is_complete ++ codes " compress " ++ decimal h.compress
    ++ codes "\n"

-- What was counted, and the least and greatest time.
unfoldable pub count_line : Counted → List ℕ
count_line c =
    codes "channels " ++ decimal c.channel_number ++ codes " chunks " ++ decimal c.chunk_number
    ++ codes " messages " ++ decimal c.message_number ++ codes "\n"

unfoldable pub time_line : Counted → List ℕ
time_line c =
    codes "time " ++ decimal c.begin_time ++ codes " to " ++ decimal c.end_time ++ codes "\n"

abbrev pub front_lines : Header → Counted → List ℕ
front_lines h c = version_line h ++ count_line c ++ time_line c

-- The index.
abbrev pub index_line : IndexFound → List ℕ
index_line Absent = codes "index absent\n"
index_line Cut = codes "index cut\n"
index_line Unreadable = codes "index unreadable\n"
index_line (Present entries) =
    codes "index present entries " ++ decimal (length entries) ++ codes "\n"

-- A text for each item, by its number from one on.
abbrev pub numbered : {X : Type 0} → (ℕ → X → List ℕ) → ℕ → List X → List ℕ
numbered line n [] = []
numbered line n (x ∷ rest) = line n x ++ numbered line (n + 1) rest

-- The channels, each with the number of its messages.
unfoldable pub channel_line : Known → ℕ → List ℕ
channel_line known count =
    codes "channel " ++ quoted true known.channel.name ++ codes " messages " ++ decimal count
    ++ codes " type " ++ quoted true known.channel.message_type ++ codes "\n"

abbrev pub channel_lines : List ℕ → List Known → List ℕ
channel_lines on channels = numbered (λ n known. channel_line known (count_on n on)) 0 channels

-- A number of the header that differs from the one that was counted, and all those of a complete
-- header, in their order.
unfoldable pub header_difference : List ℕ → ℕ → ℕ → List ℕ
header_difference field header counted =
    if header == counted then [] else codes "differs " ++ field ++ codes " header "
    ++ decimal header ++ codes " counted " ++ decimal counted ++ codes "\n"

unfoldable pub number_differences : Header → Counted → List ℕ
number_differences h c =
    header_difference (codes "index_position") h.index_position c.index_position
    ++ header_difference (codes "chunk_number") h.chunk_number c.chunk_number
    ++ header_difference (codes "channel_number") h.channel_number c.channel_number

unfoldable pub message_differences : Header → Counted → List ℕ
message_differences h c =
    header_difference (codes "begin_time") h.begin_time c.begin_time
    ++ header_difference (codes "end_time") h.end_time c.end_time
    ++ header_difference (codes "message_number") h.message_number c.message_number
    ++ header_difference (codes "size") h.size c.size

abbrev pub all_differences : Header → Counted → List ℕ
all_differences h c = number_differences h c ++ message_differences h c

abbrev pub header_differences : Header → Counted → List ℕ
header_differences h c = if h.is_complete then all_differences h c else []

-- An entry of the index by its number, where it doesn't name a section; and all those at whose
-- position no head of a section of their type stands.
unfoldable pub entry_line : ℕ → IndexEntry → Bool → List ℕ
entry_line n e named =
    if named then [] else codes "differs index entry " ++ decimal n ++ codes " position "
    ++ decimal e.position ++ codes "\n"

abbrev pub entry_difference : List PlacedHead → ℕ → IndexEntry → List ℕ
entry_difference heads n e = entry_line n e (is_head heads e.position e.kind)

abbrev pub index_differences : List PlacedHead → IndexFound → List ℕ
index_differences heads (Present entries) = numbered (entry_difference heads) 0 entries
index_differences heads other = []

-- The whole text.
unfoldable pub info_text : Contents → List ℕ
info_text c =
    file_line c.source.name c.source.size
    ++ front_lines c.source.header (counted_of c)
    ++ index_line (index_found c.source.index)
    ++ channel_lines (channels_of c.messages) c.channels
    ++ header_differences c.source.header (counted_of c)
    ++ index_differences c.source.heads (index_found c.source.index)
