-- What is kept of a file's sections, as they are read from a store.
use Rattle.std.specs.Prelude.{◌≡◌, ⊤, ℕ, ◌≤◌, ◌+◌, nat_lt, Bool, true, All, List, [], ◌∷◌, ◌++◌}
use Rattle.std.specs.Prelude.{length, map, filter, is_some, sum_by, Option, Some, None, Result, Ok}
use Rattle.std.specs.Prelude.{Err, IfOk, IfSome, IsErrOf}
use Rattle.std.specs.Option.{option_map}
use Rattle.cy_store.specs.Files.{Holds}
use Rattle.cy_store.specs.Store.{StoreView, HasCauses}
use Rattle.cy_store.specs.declared.error.StoreError.{StoreError}
use Rattle.cy_store.specs.declared.error.StoreError.TheVariants as store_error
use Rattle.cy_section.specs.declared.error.SectionError.{SectionError}
use Rattle.cy_section.specs.declared.types.SectionKind.{SectionKind}
use Rattle.cy_section.specs.declared.types.SectionKind.TheVariants as kind
use Rattle.cy_section.specs.Reading.{chunk_header_at}
use Rattle.cy_cut.specs.declared.cutting.Part.{Part}
use Rattle.cy_cut.specs.declared.cutting.CutFile.{CutFile}
use Rattle.cy_cut.specs.declared.heads.KeptIndex.{KeptIndex}
use Rattle.cy_cut.specs.declared.heads.PlacedHead.{PlacedHead}
use Rattle.cy_cut.specs.Sections.{WholeSection, sections_from, header_end, longest_file}
use Rattle.cy_cut.specs.Heads.{end_of, index_of, section_head, IsPlaced, seen_index}

-- The fault of a section's own fields, if they have one.
abbrev pub fault_by : {A : Type 0} → Result A SectionError → Option SectionError
fault_by (Ok x) = None
fault_by (Err fault) = Some fault

-- Whether a section says something: a channel does, a chunk where it has bytes, and the header of a
-- chunk only by a fault.
abbrev pub is_kept_under : SectionKind → ℕ → List ℕ → Bool
is_kept_under kind.ChunkHeader at body = is_some (fault_by (chunk_header_at at body))
is_kept_under kind.ChunkBody at body = nat_lt 0 (length body)
is_kept_under k at body = true

abbrev pub is_kept : WholeSection → Bool
is_kept s = is_kept_under s.kind s.body_at s.body

-- A section that was read.
abbrev pub seen_part : Part → WholeSection
seen_part p = record { kind = p.kind; body_at = p.body_at; body = p.body }

-- How many bytes sections take: each has a head of 16 bytes, and its body.
abbrev pub bytes_of : List Part → ℕ
bytes_of parts = sum_by (λ p. 16 + length p.body) parts

-- The fault by which the sections end, if they do.
abbrev pub fault_in : Result (Option KeptIndex) SectionError → Option SectionError
fault_in (Ok index) = None
fault_in (Err fault) = Some fault

-- Sections stand one behind another, from a place on.
abbrev pub Follow : ℕ → List WholeSection → Type 0
Follow at [] = ⊤
Follow at (s ∷ rest) = (s.body_at ≡ at + 16) × Follow (s.body_at + length s.body) rest

-- Of these sections these heads were kept, behind others, and these parts.
pub record AreKept (sections : List WholeSection) (first all : List PlacedHead)
    (kept : List Part) : Type 0 where
  pub heads : all ≡ first ++ map section_head sections
  pub parts : map seen_part kept ≡ filter is_kept sections
  pub follow : Follow header_end sections

-- This is kept of all sections of a file, and this is how and where they end.
pub record IsCut (file : List ℕ) (first : List PlacedHead) (c : CutFile) : Type 0 where
  pub sections : List WholeSection
  pub all : sections_from file header_end
      ≡ record { sections = sections; fault = fault_in c.end }
  pub kept : AreKept sections first c.heads.items c.parts.items
  pub place : c.ends_at ≡ end_of header_end sections
  pub index : IfOk c.end (λ i. index_of file header_end ≡ option_map seen_index i)

-- Each stands within the longest file that is read, and so do all together.
pub record AreWithin (c : CutFile) : Type 0 where
  pub parts : All (λ p. p.body_at + length p.body ≤ longest_file) c.parts.items
  pub all : bytes_of c.parts.items ≤ longest_file
  pub index : IfOk c.end (λ i. IfSome i IsPlaced)

pub record CutAnswer (old new : StoreView) (name : List ℕ) (first : List PlacedHead)
    (result : Result CutFile StoreError) : Type 0 where
  pub cut : IfOk result (λ c. Holds old.files name (λ file. IsCut file first c))
  pub within : IfOk result AreWithin
  pub same : new.files ≡ old.files
  pub causes : HasCauses (IsErrOf result store_error.Failed) old new name
