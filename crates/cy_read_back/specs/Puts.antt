-- Each section that is read of a record's text is one of the writes of that record: the law.
use Rattle.std.specs.Prelude.{◌≡◌, ℕ, ◌+◌, List, [], ◌∷◌, ◌++◌, length, map, Some}
use Rattle.cy_section.specs.declared.types.BodyMessage.{BodyMessage}
use Rattle.cy_section.specs.declared.types.Channel.{Channel}
use Rattle.cy_section.specs.Section.{header_section}
use Rattle.cy_section.specs.RecordText.{complete_header, header_end, incomplete_header, parts_of}
use Rattle.cy_cut.specs.declared.heads.PlacedHead.{PlacedHead}
use Rattle.cy_cut.specs.Heads.{index_head}
use Rattle.cy_writer.specs.RecordWrites.{record_puts}
use Rattle.cy_read_back.specs.Records.{heads_from, text_index}

-- Where bytes are put, and how many; and where a section stands, and how many bytes it has with its
-- head of 16.
abbrev pub put_range : ℕ × List ℕ → ℕ × ℕ
put_range put = (put.0, length put.1)

abbrev pub section_range : PlacedHead → ℕ × ℕ
section_range h = (h.at, 16 + h.size)

-- The sections that are read of a record's text behind its header: channels, the headers and bodies
-- of chunks, and the index.
abbrev pub sections_read : List Channel → List (List BodyMessage) → List PlacedHead
sections_read channels chunks = heads_from header_end (parts_of channels chunks)
    ++ index_head (Some (text_index channels chunks))

-- Each of them is one piece among those that are put. Only the header is put twice: that of an
-- incomplete record before all others, and the complete one behind them.
pub record ArePutOnce (channels : List Channel) (chunks : List (List BodyMessage)) : Type 0 where
  pub pieces : List (ℕ × List ℕ)
  pub puts : record_puts channels chunks
      ≡ (0, header_section incomplete_header) ∷ pieces
      ++ (0, header_section (complete_header channels chunks)) ∷ []
  pub sections : map put_range pieces ≡ map section_range (sections_read channels chunks)

abbrev pub SectionsArePutOnce : Type 0
SectionsArePutOnce =
    (channels : List Channel) (chunks : List (List BodyMessage)) → ArePutOnce channels chunks
