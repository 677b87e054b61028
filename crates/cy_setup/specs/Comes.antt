-- What a call answers that reads files.
use Rattle.std.specs.Prelude.{ℕ, ◌≡◌, ◌≤◌, ◌⊎◌, List, IfSome, Result, IfOk, IsErrOf}
use Rattle.cy_store.specs.Files.{Files}
use Rattle.cy_store.specs.Reads.{Reads, Accepts, Refuses, Absent}
use Rattle.cy_store.specs.Store.{StoreView, SameCounts, Rose}
use Rattle.cy_setup.specs.declared.error.Refusal.{Refusal}
use Rattle.cy_setup.specs.declared.error.SetupError.{SetupError}
use Rattle.cy_setup.specs.declared.error.SetupError.TheVariants.{Refused, Store}

-- The store failed at a file: its faults rose; or its misses did, and the file isn't there, with
-- nothing in the way of it.
pub record FailsAt {A : Type 0} (reads : Files → Reads Refusal A) (old new : StoreView)
    (file : List ℕ) : Type 0 where
  pub rose : Rose old.faults new.faults
      ⊎ (Rose old.misses new.misses × IfSome old.files (λ m. reads m ≡ Absent file))

-- What the files come to is answered: the value, as a view shows it, or the first refusal, and then
-- the store's counts stand. The store is said to have failed only where a count of it rose, at a
-- file that is asked for. No file is changed, and no count falls. Where the store tells no files,
-- nothing is said of them.
pub record ComesTo {X A : Type 0} (view : X → A) (reads : Files → Reads Refusal A)
    (IsAsked : List ℕ → Type 0) (old new : StoreView) (result : Result X SetupError) : Type 0 where
  pub accepted : IfOk result (λ x. SameCounts old new
      × IfSome old.files (λ m. reads m ≡ Accepts (view x)))
  pub refused : (refusal : Refusal) → IsErrOf result (Refused refusal) → SameCounts old new
      × IfSome old.files (λ m. reads m ≡ Refuses refusal)
  pub failed : (file : List ℕ) → IsErrOf result (Store file)
      → IsAsked file × FailsAt reads old new file
  pub same : new.files ≡ old.files
  pub faults_stay : old.faults ≤ new.faults
  pub misses_stay : old.misses ≤ new.misses

-- The same where all files were read before: what they come to is answered, and the store is not
-- used.
pub record IsJudged {X A : Type 0} (view : X → A) (due : Reads Refusal A)
    (result : Result X SetupError) : Type 0 where
  pub accepted : IfOk result (λ x. due ≡ Accepts (view x))
  pub refused : (refusal : Refusal) → IsErrOf result (Refused refusal) → due ≡ Refuses refusal
  pub unread : (file : List ℕ) → IsErrOf result (Store file) → ⊥
