-- What stands of a record whose writing was broken off is a front of its text, and is salvaged: the
-- laws.
use Rattle.std.specs.Prelude.{◌≡◌, ℕ, List, ◌∷◌, ◌++◌, length, take, drop, Ok}
use Rattle.cy_section.specs.declared.types.BodyMessage.{BodyMessage}
use Rattle.cy_section.specs.declared.types.Channel.{Channel}
use Rattle.cy_section.specs.RecordText.{IsRecordText, header_end, record_bytes}
use Rattle.cy_section.specs.RecordText.{incomplete_header}
use Rattle.cy_section.specs.Section.{header_section}
use Rattle.cy_salvage.specs.Salvage.{Salvage, salvage_of}
use Rattle.cy_writer.specs.RecordWrites.{record_sections}
use Rattle.cy_writer.specs.Unfinished.{unfinished}
use Rattle.cy_read_back.specs.Fronts.{IsFrontOf, IsSalvagedWhole}
use Rattle.cy_read_back.specs.Records.{AreReadable}

-- The file of a record whose writing was broken off behind its first put: the header of an
-- incomplete record and some sections, the last of which may have only its first bytes; or all
-- sections, behind a header that may be torn.
pub data IsBrokenOff (channels : List Channel) (chunks : List (List BodyMessage))
    (file : List ℕ) : Type 0 where
  Among : (done later : List (List ℕ)) (next : List ℕ) (kept : ℕ)
      → done ++ next ∷ later ≡ record_sections channels chunks
      → file ≡ unfinished done ++ take kept next → IsBrokenOff channels chunks file
  Behind : length file ≡ length (record_bytes channels chunks)
      → drop header_end file ≡ drop header_end (record_bytes channels chunks)
      → IsBrokenOff channels chunks file

-- Such a file has the front of the record's text, so of it the messages of the whole chunks are
-- salvaged. It is what a play, or any writing of a record, leaves that is stopped between two
-- writes or fails at one that keeps the first bytes of its piece.
abbrev pub BrokenOffAreFronts : Type 0
BrokenOffAreFronts = (channels : List Channel) (chunks : List (List BodyMessage))
    (file : List ℕ) → IsBrokenOff channels chunks file → IsFrontOf channels chunks file

-- The front of a record's text under the header of an incomplete record.
pub record IsUnfinished (channels : List Channel) (chunks : List (List BodyMessage))
    (file : List ℕ) : Type 0 where
  pub header : take header_end file ≡ header_section incomplete_header
  pub front : IsFrontOf channels chunks file

-- Such a file is accepted, where the whole record is within the limits of what is read, and the
-- messages of its whole chunks are salvaged.
abbrev pub AreSalvaged : Type 0
AreSalvaged = (channels : List Channel) (messages : List BodyMessage) (whole file : List ℕ)
    (text : IsRecordText channels messages whole) → AreReadable channels messages whole
    → IsUnfinished channels text.chunks file
    → (s : Salvage) × (salvage_of file ≡ Ok s) × IsSalvagedWhole channels text.chunks file s

-- It is what stands where the writing was broken off before the complete header was put.
abbrev pub AreLeft : Type 0
AreLeft = (channels : List Channel) (chunks : List (List BodyMessage))
    (done later : List (List ℕ)) (next : List ℕ) (kept : ℕ)
    → done ++ next ∷ later ≡ record_sections channels chunks
    → IsUnfinished channels chunks (unfinished done ++ take kept next)

-- Both.
pub record UnfinishedAreSalvaged : Type 0 where
  pub salvaged : AreSalvaged
  pub left : AreLeft
