-- What a record that is compared keeps.
use Rattle.std.specs.Prelude.{ℕ, ◌≡◌, ◌≤◌, ◌++◌, List, length, take, drop, Bool, true, false}
use Rattle.std.specs.Prelude.{Option, None, Some, Result, IfOk, IsErrOf, OnOk, OnErr}
use Rattle.std.specs.FinMap.{get}
use Rattle.cy_store.specs.Files.{Files, content}
use Rattle.cy_store.specs.Write.{Write, after_write}
use Rattle.cy_store.specs.Store.{StoreView, StoreRose, SameCounts}
use Rattle.cy_store.specs.declared.error.StoreError.{StoreError}
use Rattle.cy_store.specs.declared.error.StoreError.TheVariants as store_error
use Rattle.cy_recording.specs.private.Unlike.{unlike, Told}

-- What a store has become since comparing began: its files are the same, and its counts too, unless
-- it has failed. That a count rose is denied to be false, so that it can be told in one way alone.
pub record IsKept (name : List ℕ) (start now : StoreView) (failed : Bool) : Type 0 where
  pub files : ∥ now.files ≡ start.files ∥₁
  pub faults_stay : start.faults ≤ now.faults
  pub misses_stay : start.misses ≤ now.misses
  pub quiet : failed ≡ false → SameCounts start now
  pub rose : failed ≡ true → (StoreRose start now name → ⊥) → ⊥

-- What is known of the text that was put: how long it is, its header, and where the file first
-- differs from what stands behind that. The name is there.
pub record IsSeen (name : List ℕ) (files : Option Files) (shown : Files) (header : List ℕ)
    (size : ℕ) (place : Option ℕ) : Type 0 where
  pub there : get shown name ≡ None → ⊥
  pub long : length (content shown name) ≡ size
  pub front : take 2064 (content shown name) ≡ header
  pub differs : Told files name (λ file. place
      ≡ unlike 2064 (drop 2064 file) (drop 2064 (content shown name)))

-- What a put leaves of the files that are shown. It answers no other error than want of memory,
-- which changes nothing.
pub record Takes {T : Type 0} (write : Write) (old new : Files) (result : Result T StoreError) :
    Type 0 where
  pub put : OnOk result (new ≡ after_write write old)
  pub same : OnErr result (new ≡ old)
  pub only_memory : IsErrOf result store_error.Failed → ⊥

-- What it answers where the file first differs from what was put behind the header and from these
-- bytes behind that. The files that are shown stay.
pub record Looks (name : List ℕ) (files : Option Files) (bytes : List ℕ) (old new : Files)
    (result : Result (Option ℕ) StoreError) : Type 0 where
  pub place : IfOk result (λ place. Told files name (λ file. place
      ≡ unlike 2064 (drop 2064 file) (drop 2064 (content old name) ++ bytes)))
  pub same : new ≡ old
  pub only_memory : IsErrOf result store_error.Failed → ⊥

-- What it answers where a text first differs from the file from a place on.
pub record Answers (name : List ℕ) (files : Option Files) (at : ℕ) (text : List ℕ)
    (result : Result (Option ℕ) StoreError) : Type 0 where
  pub place : IfOk result (λ place. Told files name (λ file. place
      ≡ unlike at (drop at file) text))
  pub only_memory : IsErrOf result store_error.Failed → ⊥

-- What it shows as a store: these files, and that it never failed.
abbrev pub view_of : Files → StoreView
view_of shown = record { files = Some shown; faults = 0; misses = 0 }
