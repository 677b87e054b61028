-- What is salvaged of a record's file: what its sections say that stand before the first fault.
use Rattle.std.specs.Prelude.{◌≡◌, ◌⊎◌, ℕ, ◌-◌, Bool, true, false, if◌then◌else◌, List, [], ◌∷◌}
use Rattle.std.specs.Prelude.{length, Option, Some, None, Result, Ok, Err}
use Rattle.std.specs.Prelude.{IfOk, IfErr, IsErrOf}
use Rattle.cy_wire.specs.Field.{fields_of}
use Rattle.cy_store.specs.Files.{Holds}
use Rattle.cy_store.specs.Store.{StoreView, HasCauses}
use Rattle.cy_section.specs.declared.error.SectionError.{SectionError}
use Rattle.cy_section.specs.declared.error.SectionError.TheVariants as fault
use Rattle.cy_section.specs.declared.types.SectionKind.{SectionKind}
use Rattle.cy_section.specs.declared.types.SectionKind.TheVariants as kind
use Rattle.cy_section.specs.declared.types.Header.{Header}
use Rattle.cy_section.specs.Reading.{chunk_header_at, channel_at, messages_of}
use Rattle.cy_reader.specs.declared.error.LoadError.{LoadError}
use Rattle.cy_reader.specs.declared.error.LoadError.TheVariants.{Section, Store, Memory}
use Rattle.cy_cut.specs.Sections.{WholeSection, Sections, no_section, with_section, sections_from}
use Rattle.cy_cut.specs.Sections.{header_end}
use Rattle.cy_cut.specs.Cutting.{fault_by}
use Rattle.cy_cut.specs.Heads.{end_of}
use Rattle.cy_reader.specs.Record.{◌>>=◌, Met, nothing, file_header, add_sections}
use Rattle.cy_reader.specs.Said.{StandOnChannels}

abbrev pub fault_under : SectionKind → ℕ → List ℕ → Option SectionError
fault_under kind.Header at body = None
fault_under kind.ChunkHeader at body = fault_by (chunk_header_at at body)
fault_under kind.ChunkBody at body = (messages_of (fields_of at body)).fault
fault_under kind.Index at body = None
fault_under kind.Channel at body = fault_by (channel_at at body)

unfoldable pub own_fault : WholeSection → Option SectionError
own_fault s = fault_under s.kind s.body_at s.body

-- Sections up to the first that has a fault of its own, which gives nothing, and that fault.
abbrev pub unless_faulty : Option SectionError → WholeSection → Sections → Sections
unless_faulty None s behind = with_section s behind
unless_faulty (Some fault) s behind = no_section (Some fault)

abbrev pub until_fault : List WholeSection → Option SectionError → Sections
until_fault [] fault = no_section fault
until_fault (s ∷ rest) fault = unless_faulty (own_fault s) s (until_fault rest fault)

-- The sections of a file up to its end, the head of an index or the first fault, be it one of their
-- heads or of their fields.
unfoldable pub sound_sections : List ℕ → Sections
sound_sections file =
    let all = sections_from file header_end in until_fault all.sections all.fault

-- How many bytes of a file are dropped: none where no fault ends the sections, and else those from
-- the section with the fault on, whose head stands where they end.
abbrev pub dropped_at : ℕ → ℕ → Option SectionError → ℕ
dropped_at size end None = 0
dropped_at size end (Some fault) = size - end

abbrev pub dropped_behind : ℕ → Sections → ℕ
dropped_behind size s = dropped_at size (end_of header_end s.sections) s.fault

-- A header whose fields can't be read is accepted. Any other fault of it stands, as a compression
-- does.
abbrev pub is_unreadable : LoadError → Bool
is_unreadable (Section (fault.Wire at)) = true
is_unreadable e = false

abbrev pub if_usable : Result Header LoadError → Result (Unit {0}) LoadError
if_usable (Ok header) = Ok tt
if_usable (Err e) = if is_unreadable e then Ok tt else Err e

-- What is salvaged of a file: the channels and messages of its sound sections, within the limits,
-- and the number of bytes that are dropped; or why nothing is.
pub record Salvage : Type 0 where
  pub met : Met
  pub dropped : ℕ

abbrev pub salvage_in : ℕ → Sections → Result Salvage LoadError
salvage_in size sound = add_sections sound.sections None nothing >>= λ met.
    Ok (record { met = met; dropped = dropped_behind size sound })

unfoldable pub salvage_of : List ℕ → Result Salvage LoadError
salvage_of file = if_usable (file_header file) >>= λ usable.
    salvage_in (length file) (sound_sections file)

-- What `salvage_record` answers: what is salvaged of the file, or why nothing is. Whatever the file
-- holds, the channels have different names, and each message stands on one. It changes no file, and
-- answers `Store` only where the store's count rose.
pub record SalvageAnswer (old new : StoreView) (name : List ℕ) (result : Result Salvage LoadError) :
    Type 0 where
  pub salvage : IfOk result (λ s. Holds old.files name (λ file. salvage_of file ≡ Ok s))
  pub stand : IfOk result (λ s. StandOnChannels s.met.channels s.met.messages)
  pub refused : IfErr result (λ e. (e ≡ Memory) ⊎ ((e ≡ Store)
      ⊎ Holds old.files name (λ file. salvage_of file ≡ Err e)))
  pub same : new.files ≡ old.files
  pub causes : HasCauses (IsErrOf result Store) old new name
