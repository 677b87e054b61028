-- The heads of a file's sections, and its index, where they stand.
use Rattle.std.specs.Prelude.{ℕ, ◌+◌, ◌-◌, ◌<◌, ◌^◌, nat_lt, if◌then◌else◌, List, [], ◌∷◌, ◌++◌}
use Rattle.std.specs.Prelude.{length, take, drop, map, Option, Some, None, Result, Ok, Err}
use Rattle.byteorder.specs.Endian.{little_number}
use Rattle.cy_section.specs.declared.error.SectionError.{SectionError}
use Rattle.cy_section.specs.declared.types.SectionKind.TheVariants as kind
use Rattle.cy_cut.specs.declared.heads.KeptIndex.{KeptIndex}
use Rattle.cy_cut.specs.declared.heads.PlacedHead.{PlacedHead}
use Rattle.cy_cut.specs.Sections.{WholeSection, section_at, sections_from}

-- The whole section that stands at a place, none where there is none.
abbrev pub whole_in : Result (Option WholeSection) SectionError → Option WholeSection
whole_in (Ok found) = found
whole_in (Err fault) = None

unfoldable pub whole_at : List ℕ → ℕ → Option WholeSection
whole_at file at = whole_in (section_at file at)

-- The place behind sections that stand one after another from a place on.
abbrev pub end_of : ℕ → List WholeSection → ℕ
end_of at [] = at
end_of at (s ∷ rest) = end_of (s.body_at + length s.body) rest

-- The index: the place of its head, the size that its head has, and its body or what the file has
-- of it.
pub record PlacedIndex : Type 0 where
  pub at : ℕ
  pub size : ℕ
  pub body : List ℕ

-- An index, as it is kept.
abbrev pub seen_index : KeptIndex → PlacedIndex
seen_index i = record { at = i.at; size = i.size; body = i.body }

-- An index whose bytes have places of 64 bits.
abbrev pub IsPlaced : KeptIndex → Type 0
IsPlaced i = i.at + 16 + length i.body < 2 ^ 64

abbrev pub index_under : List ℕ → ℕ → ℕ → PlacedIndex
index_under file at size = record { at = at; size = size; body = take size (drop (at + 16) file) }

-- The index whose head stands behind the sections of a file, none where the file ends there.
unfoldable pub index_at : List ℕ → ℕ → Option PlacedIndex
index_at file at =
    if nat_lt (length file) (at + 16) then None
    else Some (index_under file at (little_number 8 (drop (at + 8) file)))

unfoldable pub index_of : List ℕ → ℕ → Option PlacedIndex
index_of file start = index_at file (end_of start (sections_from file start).sections)

-- The head of a file's header, that of a section, and that of the index.
unfoldable pub header_head : List ℕ → PlacedHead
header_head file = record { at = 0; kind = kind.Header; size = little_number 8 (drop 8 file) }

abbrev pub section_head : WholeSection → PlacedHead
section_head s = record { at = s.body_at - 16; kind = s.kind; size = length s.body }

abbrev pub index_head : Option PlacedIndex → List PlacedHead
index_head None = []
index_head (Some i) = record { at = i.at; kind = kind.Index; size = i.size } ∷ []

-- The heads of the header and of the sections behind it, in file order, and those of all sections
-- that are read, the index's included. The sections begin at a place.
abbrev pub whole_heads : List ℕ → ℕ → List PlacedHead
whole_heads file start = header_head file ∷ map section_head (sections_from file start).sections

unfoldable pub heads_of : List ℕ → ℕ → List PlacedHead
heads_of file start = whole_heads file start ++ index_head (index_of file start)
