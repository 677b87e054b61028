-- The writes of a record of any channels and messages, as a writer makes them.
use Rattle.std.specs.Prelude.{ℕ, List, [], ◌∷◌, ◌++◌, map}
use Rattle.cy_store.specs.Write.{Write, Create}
use Rattle.cy_section.specs.declared.types.Channel.{Channel}
use Rattle.cy_section.specs.declared.types.BodyMessage.{BodyMessage}
use Rattle.cy_section.specs.Section.{header_section}
use Rattle.cy_section.specs.RecordText.{Part, parts_of, index_section, header_end}
use Rattle.cy_section.specs.RecordText.{incomplete_header, complete_header}
use Rattle.cy_writer.specs.Given.{Given, with_message, chunks_of}
use Rattle.cy_writer.specs.Writes.{placed, puts_into}

-- The sections of channels and chunks.
abbrev pub part_sections : List Channel → List (List BodyMessage) → List (List ℕ)
part_sections channels chunks = map (λ (part : Part). part.bytes) (parts_of channels chunks)

-- The sections of a record behind its header: the index is the last one.
abbrev pub record_sections : List Channel → List (List BodyMessage) → List (List ℕ)
record_sections channels chunks =
    part_sections channels chunks ++ index_section (parts_of channels chunks) ∷ []

-- What is put of a record that is still being written: the header of such a one, these channels and
-- these chunks.
abbrev pub front_puts : List Channel → List (List BodyMessage) → List (ℕ × List ℕ)
front_puts channels chunks =
    (0, header_section incomplete_header) ∷ placed header_end (part_sections channels chunks)

-- A record is put section by section: first the header of an incomplete record, then the sections,
-- last the complete header over the first one.
unfoldable pub record_puts : List Channel → List (List BodyMessage) → List (ℕ × List ℕ)
record_puts channels chunks =
    (0, header_section incomplete_header) ∷ placed header_end (record_sections channels chunks)
    ++ (0, header_section (complete_header channels chunks)) ∷ []

-- A file is made, and its pieces are put at their places.
abbrev pub file_writes : List ℕ → List (ℕ × List ℕ) → List Write
file_writes name puts = Create name ∷ puts_into name puts

-- These channels were given for a file, and no message yet.
abbrev pub given_channels : List ℕ → List Channel → Given
given_channels name channels =
    record { name = name; channels = channels; closed = []; gathered = [] }

-- These messages were given too, each in its turn.
abbrev pub with_messages : Given → List BodyMessage → Given
with_messages g [] = g
with_messages g (m ∷ rest) = with_messages (with_message g m) rest

-- The chunks in which messages on these channels are written.
abbrev pub chunks_given : List ℕ → List Channel → List BodyMessage → List (List BodyMessage)
chunks_given name channels messages =
    chunks_of (with_messages (given_channels name channels) messages)
