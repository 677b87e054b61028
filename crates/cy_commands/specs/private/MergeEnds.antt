-- How `merge` ends.
use Rattle.std.specs.Prelude.{ℕ, ◌≡◌, List, Option, IfSome, Result, Ok, OnOk, IsErrOf}
use Rattle.std.specs.List.{Contains}
use Rattle.cy_store.specs.Files.{Files}
use Rattle.cy_store.specs.Reads.{Accepts, Refuses}
use Rattle.cy_store.specs.Store.{StoreView}
use Rattle.cy_salvage.specs.Joined.{Gathered}
use Rattle.cy_writer.specs.declared.error.WriteError.{WriteError}
use Rattle.cy_writer.specs.declared.error.WriteError.TheVariants as write_error
use Rattle.cy_setup.specs.Comes.{ComesTo}
use Rattle.cy_setup.specs.Merging.{merged_in}
use Rattle.cy_setup.specs.declared.error.Refusal.{Refusal}
use Rattle.cy_setup.specs.declared.error.SetupError.{SetupError}
use Rattle.cy_setup.specs.declared.error.SetupError.TheVariants as setup
use Rattle.cy_setup.specs.declared.error.SetupError.TheVariants.{Refused}
use Rattle.cy_args.specs.MergeWords.{MergeWords}
use Rattle.cy_commands.specs.Commands.MergeWork.{merged_apart}
use Rattle.cy_commands.specs.Lines.{store_line}
use Rattle.cy_commands.specs.declared.status.Status.{Status}
use Rattle.cy_commands.specs.declared.status.Status.TheVariants.{StoreFault}
use Rattle.cy_commands.specs.private.Unset.{IsStarved}

-- In a store that tells its files, what is written is none of those that are read.
abbrev pub IsApartFrom : Option Files → (inputs : List (List ℕ)) → (output : List ℕ) → Type 0
IsApartFrom files inputs output = IfSome files (λ _. merged_apart inputs output ≡ Accepts tt)

-- What is answered of the names, while the store is as it was.
pub record AreInputs {X : Type 0} (files : Option Files) (inputs : List (List ℕ))
    (output : List ℕ) (result : Result X SetupError) : Type 0 where
  pub apart : OnOk result (IsApartFrom files inputs output)
  pub refused : (refusal : Refusal) → IsErrOf result (Refused refusal)
      → IfSome files (λ _. merged_apart inputs output ≡ Refuses refusal)
  pub unread : (file : List ℕ) → IsErrOf result (setup.Store file) → ⊥

-- The records came to this, and the store is as it was since.
abbrev pub IsUnitedIn : MergeWords → StoreView → StoreView → Gathered → Type 0
IsUnitedIn w before now g = IsApartFrom before.files w.inputs w.output
    × ComesTo (λ (x : Gathered). x) (merged_in w.inputs) (Contains w.inputs) before now (Ok g)

-- What is due where the record was not written.
abbrev pub IsDueUnwritten : (output : List ℕ) → WriteError → Status → List ℕ → Type 0
IsDueUnwritten output write_error.Memory due line = IsStarved due line
IsDueUnwritten output e due line = (due ≡ StoreFault) × (line ≡ store_line output)
