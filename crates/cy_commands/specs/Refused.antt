-- What it means that a command's files are refused.
use Rattle.std.specs.Prelude.{ℕ, ◌≡◌, List, ◌∷◌, Option, None, IfSome}
use Rattle.std.specs.List.{Contains}
use Rattle.cy_store.specs.Files.{Files}
use Rattle.cy_store.specs.Reads.{Reads, Refuses}
use Rattle.cy_setup.specs.Apart.{IsOneOf, standard_output}
use Rattle.cy_setup.specs.declared.error.Refusal.{Refusal}
use Rattle.cy_setup.specs.FaultText.{refusal_line}
use Rattle.cy_commands.specs.declared.status.Status.{Status}
use Rattle.cy_commands.specs.Status.{fault_status}

-- Reading them comes to the refusal of a file, which has the status of its fault and its own line.
pub record IsRefusal {A : Type 0} (reads : Files → Reads Refusal A) (files : Option Files)
    (due : Status) (line : List ℕ) : Type 0 where
  pub refusal : Refusal
  pub refused : IfSome files (λ m. reads m ≡ Refuses refusal)
  pub status : due ≡ fault_status refusal.fault
  pub told : line ≡ refusal_line refusal

-- What they come to, in a relation, is a refusal.
pub record IsRefusalBy {A : Type 0} (comes : Option Files → Reads Refusal A → Type 0)
    (files : Option Files) (due : Status) (line : List ℕ) : Type 0 where
  pub refusal : Refusal
  pub refused : comes files (Refuses refusal)
  pub status : due ≡ fault_status refusal.fault
  pub told : line ≡ refusal_line refusal

-- A store that tells no files says that two of a command's own files are one, or one of them and
-- standard output.
pub record IsOneFile (own : List (List ℕ)) (files : Option Files) (due : Status) (line : List ℕ)
    : Type 0 where
  pub untold : files ≡ None
  pub name : List ℕ
  pub named : Contains own name
  pub refusal : Refusal
  pub one : IsOneOf name (standard_output ∷ own) refusal
  pub status : due ≡ fault_status refusal.fault
  pub told : line ≡ refusal_line refusal
