-- What is salvaged of the sections that were read.
use Rattle.std.specs.Prelude.{◌≡◌, ◌⊎◌, ◌<◌, ◌≤◌, ℕ, ◌-◌, Bool, List, length, map, take, Option}
use Rattle.std.specs.Prelude.{Some, None, is_some, slice_get, Result, Ok, Err, IfOk, IfErr, IfSome}
use Rattle.std.specs.Prelude.{IsErrOf, IsSome}
use Rattle.std.specs.List.{AllZip}
use Rattle.cy_store.specs.Files.{Holds}
use Rattle.cy_store.specs.Store.{StoreView, HasCauses}
use Rattle.cy_section.specs.declared.error.SectionError.{SectionError}
use Rattle.cy_reader.specs.declared.error.LoadError.{LoadError}
use Rattle.cy_reader.specs.declared.error.LoadError.TheVariants.{Store, Memory}
use Rattle.cy_cut.specs.declared.cutting.Part.{Part}
use Rattle.cy_cut.specs.declared.cutting.CutFile.{CutFile}
use Rattle.cy_reader.specs.Record.{◌>>=◌, file_header, add_sections, nothing}
use Rattle.cy_cut.specs.Sections.{header_end, longest_file, Sections}
use Rattle.cy_salvage.specs.Salvage.{Salvage, own_fault, until_fault, if_usable, dropped_at}
use Rattle.cy_salvage.specs.Salvage.{salvage_of}
use Rattle.cy_cut.specs.Cutting.{seen_part, fault_in}

-- These many sections stand before the first that has a fault of its own, if one has.
pub record AreSound (parts : List Part) (count : ℕ) (fault : Option SectionError) : Type 0 where
  pub end : Option SectionError
  pub sound : until_fault (map seen_part parts) fault
      ≡ record { sections = map seen_part (take count parts); fault = end }
  pub within : count ≤ length parts
  pub all : count ≡ length parts → end ≡ fault
  pub some : count < length parts → IsSome end

-- Whether the fields of a section are faulty, and the same of many, as far as it is told.
abbrev pub IsJudged : Part → Bool → Type 0
IsJudged p faulty = faulty ≡ is_some (own_fault (seen_part p))

abbrev pub AreJudged : List Part → List (Option Bool) → Type 0
AreJudged parts faults = AllZip (λ p faulty. IfSome faulty (IsJudged p)) parts faults

-- The size of a file whose front is usable, or why it isn't.
pub record SizeAnswer (old new : StoreView) (name : List ℕ) (result : Result ℕ LoadError) : Type 0
  where
    pub size : IfOk result (λ size. Holds old.files name (λ file. (size ≡ length file)
        × (if_usable (file_header file) ≡ Ok tt)))
    pub sized : IfOk result (λ size. (header_end ≤ size) × (size ≤ longest_file))
    pub refused : IfErr result (λ e. (e ≡ Memory) ⊎ ((e ≡ Store)
        ⊎ Holds old.files name (λ file. salvage_of file ≡ Err e)))
    pub same : new.files ≡ old.files
    pub causes : HasCauses (IsErrOf result Store) old new name

-- The place behind the sections before a part that is kept, or where all end, where there is none.
abbrev pub place_before : ℕ → Option Part → ℕ
place_before end None = end
place_before end (Some p) = p.body_at - 16

-- What is salvaged of a file of this size that was cut into sections.
abbrev pub salvage_kept : ℕ → ℕ → List Part → Sections → Result Salvage LoadError
salvage_kept size end parts sound = add_sections sound.sections None nothing >>= λ met.
    Ok (record {
      met = met;
      dropped = dropped_at size (place_before end (slice_get parts (length sound.sections)))
          sound.fault;
    })

unfoldable pub cut_salvage : ℕ → CutFile → Result Salvage LoadError
cut_salvage size c = salvage_kept size c.ends_at c.parts.items
    (until_fault (map seen_part c.parts.items) (fault_in c.end))
