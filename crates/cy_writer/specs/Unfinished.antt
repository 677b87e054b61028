-- What stands of a record in its file where the writing stopped.
use Rattle.std.specs.Prelude.{ℕ, ◌+◌, ◌≡◌, ◌≢◌, ◌≤◌, List, [], ◌∷◌, ◌++◌, length, take, drop, All}
use Rattle.std.specs.Prelude.{Option, Some}
use Rattle.std.specs.List.{flat_map}
use Rattle.std.specs.FinMap.{get}
use Rattle.cy_store.specs.Files.{Files}
use Rattle.cy_store.specs.Write.{Write, Create, Put, name_of}
use Rattle.cy_section.specs.declared.types.Channel.{Channel}
use Rattle.cy_section.specs.declared.types.BodyMessage.{BodyMessage}
use Rattle.cy_section.specs.Section.{header_section}
use Rattle.cy_section.specs.RecordText.{header_end, incomplete_header, complete_header}
use Rattle.cy_section.specs.RecordText.{record_bytes}
use Rattle.cy_writer.specs.RecordWrites.{file_writes, record_puts, record_sections}
use Rattle.cy_writer.specs.Writes.{StopsAt, StopsBefore}

-- The bytes of a record that is still being written: the header of such a one, and these sections.
abbrev pub unfinished : List (List ℕ) → List ℕ
unfinished sections = header_section incomplete_header ++ flat_map (λ section. section) sections

-- Bytes that begin with these, and have at most so many behind them, of which nothing is known.
pub record BeginWith (first : List ℕ) (most : ℕ) (bytes : List ℕ) : Type 0 where
  pub same : take (length first) bytes ≡ first
  pub few : length bytes ≤ length first + most

-- A write that puts nothing into this file: it is of another one, or makes this one.
abbrev pub PutsNothing : List ℕ → Write → Type 0
PutsNothing name w = name_of w ≡ name → w ≡ Create name

-- What a record's file holds where this write failed. Before its first put it is as it was. Where
-- that put failed, it has no more than the room of the header. Where the put of a section did, it
-- has the header of an incomplete record, the sections before, and anything in the range of this
-- one. Where the last put did, which puts the complete header over the first one, that header may
-- be torn. Behind its last put it is whole.
pub data StandsTorn (name : List ℕ) (channels : List Channel) (chunks : List (List BodyMessage))
    (failed : Write) (old new : Option (List ℕ)) : Type 0 where
  Unmade : PutsNothing name failed → new ≡ old → StandsTorn name channels chunks failed old new
  Begun : (bytes : List ℕ) → failed ≡ Put name 0 (header_section incomplete_header)
      → new ≡ Some bytes → length bytes ≤ header_end
      → StandsTorn name channels chunks failed old new
  Torn : (bytes next : List ℕ) (done later : List (List ℕ))
      → done ++ next ∷ later ≡ record_sections channels chunks
      → failed ≡ Put name (length (unfinished done)) next → new ≡ Some bytes
      → BeginWith (unfinished done) (length next) bytes
      → StandsTorn name channels chunks failed old new
  Headless : (bytes : List ℕ)
      → failed ≡ Put name 0 (header_section (complete_header channels chunks))
      → new ≡ Some bytes → length bytes ≡ length (record_bytes channels chunks)
      → drop header_end bytes ≡ drop header_end (record_bytes channels chunks)
      → StandsTorn name channels chunks failed old new
  Whole : name_of failed ≢ name → new ≡ Some (record_bytes channels chunks)
      → StandsTorn name channels chunks failed old new

-- The same where the writing stopped between two writes.
pub data StandsCut (channels : List Channel) (chunks : List (List BodyMessage))
    (old new : Option (List ℕ)) : Type 0 where
  Untouched : new ≡ old → StandsCut channels chunks old new
  Empty : new ≡ Some [] → StandsCut channels chunks old new
  Front : (done later : List (List ℕ)) → done ++ later ≡ record_sections channels chunks
      → new ≡ Some (unfinished done) → StandsCut channels chunks old new
  Complete : new ≡ Some (record_bytes channels chunks) → StandsCut channels chunks old new

-- Writes of which none is of this file.
abbrev pub AreOfOthers : List ℕ → List Write → Type 0
AreOfOthers name writes = All (λ w. name_of w ≢ name) writes

-- A record's writes, with those of other files before and behind them.
abbrev pub writes_among : List Write → List ℕ → List Channel → List (List BodyMessage) → List Write
    → List Write
writes_among first name channels chunks last =
    first ++ (file_writes name (record_puts channels chunks) ++ last)

-- Where one of them fails, the record's file is as far as the writing had come.
abbrev pub FailedLeaves : Type 0
FailedLeaves = (name : List ℕ) (channels : List Channel) (chunks : List (List BodyMessage))
    (first last : List Write) (failed : Write) (m n : Files) → AreOfOthers name first
    → AreOfOthers name last
    → StopsAt (writes_among first name channels chunks last) failed (Some m) (Some n)
    → StandsTorn name channels chunks failed (get m name) (get n name)

-- So it is where memory runs out between two of them.
abbrev pub StarvedLeaves : Type 0
StarvedLeaves = (name : List ℕ) (channels : List Channel) (chunks : List (List BodyMessage))
    (first last : List Write) (m n : Files) → AreOfOthers name first → AreOfOthers name last
    → StopsBefore (writes_among first name channels chunks last) (Some m) (Some n)
    → StandsCut channels chunks (get m name) (get n name)

-- A file that no write is of stays as it was.
abbrev pub OthersStay : Type 0
OthersStay = (name : List ℕ) (writes : List Write) (failed : Write) (m n : Files)
    → AreOfOthers name writes → StopsAt writes failed (Some m) (Some n) → get n name ≡ get m name

abbrev pub OthersStayStarved : Type 0
OthersStayStarved = (name : List ℕ) (writes : List Write) (m n : Files) → AreOfOthers name writes
    → StopsBefore writes (Some m) (Some n) → get n name ≡ get m name
