-- What comparing comes to once all was put.
use Rattle.std.specs.Prelude.{ℕ, ◌≡◌, List, length, true, false, Option, Result, IfOk, OnOk, OnErr}
use Rattle.std.specs.Prelude.{IsErrOf}
use Rattle.std.specs.Option.{option_or}
use Rattle.cy_store.specs.Store.{StoreView, SameCounts, HasCauses}
use Rattle.cy_store.specs.declared.error.StoreError.{StoreError}
use Rattle.cy_store.specs.declared.error.StoreError.TheVariants as store_error
use Rattle.cy_writer.specs.declared.error.WriteError.{WriteError}
use Rattle.cy_recording.specs.Compare.{first_difference}
use Rattle.cy_recording.specs.private.Unlike.{unlike, Told}
use Rattle.cy_recording.specs.declared.error.SameError.{SameError}
use Rattle.cy_recording.specs.declared.error.SameError.TheVariants as same_error
use Rattle.cy_recording.specs.declared.judged.Found.{Found}

-- A store's answer, as that of comparing.
abbrev pub error_of : StoreError → SameError
error_of store_error.Failed = same_error.Store
error_of store_error.Memory = same_error.Memory

-- The place is the first difference of a file and a text of these lengths, whose header was found
-- to differ there, if anywhere, and the rest here.
abbrev pub IsFirst : (header behind : Option ℕ) → (end size : ℕ) → Option ℕ → Type 0
IsFirst header behind end size place = (file text : List ℕ) → length file ≡ size → length text ≡ end
    → option_or header behind ≡ unlike 0 file text → place ≡ first_difference file text

-- What is answered of a record that was written: that the store failed, where it has, and else
-- where the file first differs, or the want of memory. A place is answered only where all was
-- written.
pub record Judges {T : Type 0} (found : Found) (written : Result T WriteError)
    (old new : StoreView) (result : Result (Option ℕ) SameError) : Type 0 where
  pub place : IfOk result (λ place. Told old.files found.name.now (λ file.
      IsFirst (unlike 0 file found.header.now) found.behind found.end found.size place))
  pub done : OnOk result (OnErr written ⊥)
  pub same : new.files ≡ old.files
  pub failed : found.failed ≡ true → IsErrOf result same_error.Store × SameCounts old new
  pub causes : found.failed ≡ false → HasCauses (IsErrOf result same_error.Store) old new
      found.name.now

-- The same as `SameAnswer`, where the file is there.
pub record Compares (name text : List ℕ) (old new : StoreView)
    (result : Result (Option ℕ) SameError) : Type 0 where
  pub compared : IfOk result (λ place. Told old.files name (λ file. place
      ≡ first_difference file text))
  pub same : new.files ≡ old.files
  pub causes : HasCauses (IsErrOf result same_error.Store) old new name
