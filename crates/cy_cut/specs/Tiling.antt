-- How the bytes of a record's file are sections: heads and bodies stand one behind another, with no
-- byte between them, up to the file's end, the head of an index, or the first fault.
use Rattle.std.specs.Prelude.{ℕ, ◌≡◌, ◌<◌, ◌≤◌, ◌+◌, ◌^◌, ◌⊎◌, List, [], ◌++◌, length, drop}
use Rattle.std.specs.Prelude.{Some, None}
use Rattle.std.specs.Int.{w64, cast_signed}
use Rattle.byteorder.specs.Endian.{little_number}
use Rattle.cy_section.specs.declared.error.SectionError.{SectionError}
use Rattle.cy_section.specs.declared.error.SectionError.TheVariants.{Cut, Kind, Size, TooLong}
use Rattle.cy_section.specs.declared.types.SectionKind.{SectionKind}
use Rattle.cy_section.specs.declared.types.SectionKind.TheVariants as kind
use Rattle.cy_section.specs.Section.{kind_number}
use Rattle.cy_cut.specs.Sections.{Sections, no_section, with_section, longest_section}
use Rattle.cy_cut.specs.Sections.{sections_from}

-- The head of a section: 16 bytes, of which the first four are the number of its type and the last
-- eight the size of its body, little-endian. Those between are not looked at.
pub record IsHead (bytes : List ℕ) (number size : ℕ) : Type 0 where
  pub whole : length bytes ≡ 16
  pub typed : little_number 4 bytes ≡ number
  pub sized : little_number 8 (drop 8 bytes) ≡ size

-- The sections that stand between the header and the index.
pub data IsPart : SectionKind → Type 0 where
  chunk_header : IsPart kind.ChunkHeader
  chunk_body : IsPart kind.ChunkBody
  channel : IsPart kind.Channel

-- No section stands at the place where these bytes do, and the fault, whose place is the head's:
-- too few bytes for a head; the type of a second header, or of no section; a size below 0, as a
-- signed number of 64 bits; one that is too long; or one that goes past the end.
pub data IsNoSection (at : ℕ) : List ℕ → SectionError → Type 0 where
  no_head : {bytes : List ℕ} → 0 < length bytes → length bytes < 16
      → IsNoSection at bytes (Cut at)
  no_type : {head : List ℕ} {number size : ℕ} → IsHead head number size
      → (number ≡ 0) ⊎ (4 < number) → (rest : List ℕ)
      → IsNoSection at (head ++ rest) (Kind at number)
  no_size : {head : List ℕ} {number size : ℕ} → IsHead head number size → 0 < number → number ≤ 4
      → 2 ^ 63 ≤ size → (rest : List ℕ)
      → IsNoSection at (head ++ rest) (Size at (cast_signed w64 size))
  too_long : {head : List ℕ} {k : SectionKind} {size : ℕ} → IsHead head (kind_number k) size
      → IsPart k → longest_section < size → size < 2 ^ 63 → (rest : List ℕ)
      → IsNoSection at (head ++ rest) (TooLong at size)
  no_body : {head : List ℕ} {k : SectionKind} {size : ℕ} → IsHead head (kind_number k) size
      → IsPart k → size ≤ longest_section → (rest : List ℕ) → length rest < size
      → IsNoSection at (head ++ rest) (Cut at)

-- The sections of bytes that stand at a place, up to their end, the head of an index, whatever
-- stands behind it, or the first fault.
pub data AreSections : (at : ℕ) → List ℕ → Sections → Type 0 where
  ended : {at : ℕ} → AreSections at [] (no_section None)
  index : {at size : ℕ} {head : List ℕ} → IsHead head (kind_number kind.Index) size
      → size < 2 ^ 63 → (rest : List ℕ) → AreSections at (head ++ rest) (no_section None)
  section : {at : ℕ} {head body rest : List ℕ} {k : SectionKind} {others : Sections}
      → IsHead head (kind_number k) (length body) → IsPart k → length body ≤ longest_section
      → AreSections (at + 16 + length body) rest others
      → AreSections at (head ++ (body ++ rest))
      (with_section (record { kind = k; body_at = at + 16; body = body }) others)
  broken : {at : ℕ} {bytes : List ℕ} {fault : SectionError} → IsNoSection at bytes fault
      → AreSections at bytes (no_section (Some fault))

-- From each place on a file's bytes are sections in one way, and these are the ones that are read.
abbrev pub SectionsTile : Type 0
SectionsTile = (file : List ℕ) (at : ℕ) → at ≤ length file
    → AreSections at (drop at file) (sections_from file at)
    × ((other : Sections) → AreSections at (drop at file) other → other ≡ sections_from file at)
