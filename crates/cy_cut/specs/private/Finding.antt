-- What is found at a place of a file, as a store is asked for it.
use Rattle.std.specs.Prelude.{◌≡◌, ◌≢◌, ⊤, ℕ, ◌≤◌, ◌+◌, nat_lt, ◌==◌, if◌then◌else◌, List, [], ◌∷◌}
use Rattle.std.specs.Prelude.{length, take, drop, map, filter, Option, Some, None, Result, Ok, Err}
use Rattle.std.specs.Prelude.{IfOk, IfSome, IsErrOf}
use Rattle.std.specs.Option.{option_map}
use Rattle.byteorder.specs.Endian.{little_number}
use Rattle.cy_store.specs.Files.{Holds}
use Rattle.cy_store.specs.Store.{StoreView, HasCauses}
use Rattle.cy_store.specs.declared.error.StoreError.{StoreError}
use Rattle.cy_store.specs.declared.error.StoreError.TheVariants as store_error
use Rattle.cy_section.specs.declared.error.SectionError.{SectionError}
use Rattle.cy_section.specs.declared.error.SectionError.TheVariants.{Cut, Kind, TooLong}
use Rattle.cy_section.specs.declared.types.Head.{Head}
use Rattle.cy_section.specs.declared.types.SectionKind.{SectionKind}
use Rattle.cy_section.specs.declared.types.SectionKind.TheVariants as kind
use Rattle.cy_section.specs.Head.{head_at}
use Rattle.cy_cut.specs.declared.cutting.Part.{Part}
use Rattle.cy_cut.specs.declared.cutting.Found.{Found}
use Rattle.cy_cut.specs.declared.cutting.Found.TheVariants as found
use Rattle.cy_cut.specs.declared.heads.PlacedHead.{PlacedHead}
use Rattle.cy_cut.specs.declared.window.Window.{Window}
use Rattle.cy_cut.specs.Sections.{WholeSection, section_at, under_head, longest_section}
use Rattle.cy_cut.specs.Heads.{index_at, index_under, section_head, IsPlaced, seen_index}
use Rattle.cy_cut.specs.private.Window.{IsRead}
use Rattle.cy_cut.specs.Cutting.{is_kept, seen_part}

-- The head at the front of bytes that stand at a place, of which there may be too few.
unfoldable pub head_found : ℕ → List ℕ → Result Head SectionError
head_found at bytes =
    if nat_lt (length bytes) 16 then Err (Cut at)
    else (if little_number 4 bytes == 0 then Err (Kind at 0) else head_at at bytes)

-- Why a section of this kind and size doesn't stand whole in a file of this many bytes, if it
-- doesn't: one that is too long comes before one that goes past the file's end.
abbrev pub part_misfit : ℕ → ℕ → ℕ → Option SectionError
part_misfit at size long =
    if nat_lt longest_section long then Some (TooLong at long)
    else (if nat_lt size (at + 16 + long) then Some (Cut at) else None)

abbrev pub misfit : ℕ → ℕ → SectionKind → ℕ → Option SectionError
misfit at size kind.Index long = None
misfit at size k long = part_misfit at size long

-- The head that stands at a place of a file of this size, where its section stands whole in it.
abbrev pub unless_misfit : Head → Option SectionError → Result Head SectionError
unless_misfit head None = Ok head
unless_misfit head (Some fault) = Err fault

abbrev pub judged : ℕ → ℕ → Result Head SectionError → Result Head SectionError
judged at size (Ok head) = unless_misfit head (misfit at size head.kind head.size)
judged at size (Err fault) = Err fault

unfoldable pub judged_head : ℕ → ℕ → List ℕ → Result Head SectionError
judged_head at size bytes = judged at size (head_found at bytes)

-- A head's section stands whole in a file of this size; of an index the head.
pub record Fits (at size : ℕ) (head : Head) : Type 0 where
  pub inside : at + 16 ≤ size
  pub whole : head.kind ≢ kind.Index → (head.size ≤ longest_section)
      × (at + 16 + head.size ≤ size)

abbrev pub listed : Option Part → List Part
listed None = []
listed (Some p) = p ∷ []

-- A head stands at a place of a file, which has so many bytes.
pub record IsHeaded (file : List ℕ) (at size : ℕ) (head : Head) : Type 0 where
  pub sized : size ≡ length file
  pub under : section_at file at ≡ under_head file at head.kind head.size
  pub index : index_at file at ≡ Some (index_under file at head.size)

-- The same, where bytes of the file were read ahead.
abbrev pub IsAt : ℕ → ℕ → Head → Window → List ℕ → Type 0
IsAt at size head window file = IsHeaded file at size head × IsRead file window

-- A section stands at a place of a file. This is its head, and this is what is kept of it.
pub record IsSection (file : List ℕ) (at : ℕ) (head : PlacedHead) (part : Option Part) : Type 0
  where
    pub section : WholeSection
    pub there : section_at file at ≡ Ok (Some section)
    pub place : section.body_at ≡ at + 16
    pub headed : section_head section ≡ head
    pub kept : map seen_part (listed part) ≡ filter is_kept (section ∷ [])

-- This is what stands at a place of a file: a section, the file's end or the index, or a fault.
abbrev pub IsFound : List ℕ → ℕ → Found → Type 0
IsFound file at (found.Section head part) = IsSection file at head part
IsFound file at (found.Last (Ok index)) = (section_at file at ≡ Ok None)
    × (index_at file at ≡ option_map seen_index index)
IsFound file at (found.Last (Err fault)) = section_at file at ≡ Err fault

-- It ends within so many bytes.
pub record IsWithinFile (at size : ℕ) (head : PlacedHead) (part : Option Part) : Type 0 where
  pub inside : at + 16 + head.size ≤ size
  pub body : IfSome part (λ p. p.body_at + length p.body ≤ size)
  pub short : IfSome part (λ p. length p.body ≤ head.size)

abbrev pub EndsWithin : ℕ → ℕ → Found → Type 0
EndsWithin at size (found.Section head part) = IsWithinFile at size head part
EndsWithin at size (found.Last (Ok index)) = IfSome index IsPlaced
EndsWithin at size (found.Last (Err fault)) = ⊤

-- What is found of a head's section, of whose body these bytes were read.
pub record BodyAnswer (at size : ℕ) (head : Head) (body : List ℕ) (f : Found) : Type 0 where
  pub found : (file : List ℕ) → IsHeaded file at size head
      → body ≡ take head.size (drop (at + 16) file) → IsFound file at f
  pub within : EndsWithin at size f

pub record FoundAnswer (old new : StoreView) (name : List ℕ) (at size : ℕ) (window : Window)
    (result : Result Found StoreError) : Type 0 where
  pub found : IfOk result (λ f. Holds old.files name (λ file. IsFound file at f))
  pub read : IfOk result (λ _. Holds old.files name (λ file. IsRead file window))
  pub within : IfOk result (EndsWithin at size)
  pub same : new.files ≡ old.files
  pub causes : HasCauses (IsErrOf result store_error.Failed) old new name
