-- A file compared with a text, piece by piece.
use Rattle.std.specs.Prelude.{ℕ, ◌+◌, ◌≡◌, ◌≤◌, ⊤, List, drop, Some, Option, Result, IfOk, IsErrOf}
use Rattle.cy_store.specs.Store.{StoreView, HasCause, HasCauses}
use Rattle.cy_store.specs.declared.error.StoreError.{StoreError}
use Rattle.cy_store.specs.declared.error.StoreError.TheVariants as store_error
use Rattle.cy_recording.specs.private.Unlike.{unlike, Told}
use Rattle.cy_recording.specs.declared.pieces.Part.{Part}
use Rattle.cy_recording.specs.declared.pieces.Part.TheVariants.{Same, Unlike}

-- What was found of a text that begins at a place, in a file from that place on: so many bytes are
-- the same, or it differs at a place.
abbrev pub IsFound : (at : ℕ) → (text file : List ℕ) → Part → Type 0
IsFound at text file (Same n) =
    unlike at file text ≡ unlike (at + n) (drop n file) (drop n text)
IsFound at text file (Unlike place) = unlike at file text ≡ Some place

-- At least one byte is the same, and no more than the text has.
abbrev pub IsStep : (size : ℕ) → Part → Type 0
IsStep size (Same n) = (1 ≤ n) × (n ≤ size)
IsStep size (Unlike place) = ⊤

-- What comparing the next bytes of a text answers.
pub record ComparesSome (at : ℕ) (name text : List ℕ) (size : ℕ) (old new : StoreView)
    (result : Result Part StoreError) : Type 0 where
  pub found : IfOk result (λ part. Told old.files name (λ file.
      IsFound at text (drop at file) part))
  pub some : IfOk result (IsStep size)
  pub same : new.files ≡ old.files
  pub cause : HasCause old new name result

-- What comparing a text with a file's bytes from a place on answers.
pub record ComparesAll (at : ℕ) (name text : List ℕ) (old new : StoreView)
    (result : Result (Option ℕ) StoreError) : Type 0 where
  pub place : IfOk result (λ place. Told old.files name (λ file. place
      ≡ unlike at (drop at file) text))
  pub same : new.files ≡ old.files
  pub causes : HasCauses (IsErrOf result store_error.Failed) old new name
