-- The writes of one file, in their order, and what stands where they stop.
use Rattle.std.specs.Prelude.{ℕ, ◌+◌, ◌≡◌, ◌≤◌, List, [], ◌∷◌, ◌++◌, length, map}
use Rattle.std.specs.Prelude.{◌⊎◌, Option, None, Result, OnOk, IsErrOf}
use Rattle.std.specs.Option.{option_map}
use Rattle.cy_store.specs.Files.{Files, Holds}
use Rattle.cy_store.specs.Write.{Write, Put, written_at, after_writes, LeavesIn}
use Rattle.cy_store.specs.Store.{StoreView, HasWriteCauses}
use Rattle.cy_writer.specs.declared.error.WriteError.{WriteError}
use Rattle.cy_writer.specs.declared.error.WriteError.TheVariants as write_error

-- Pieces one behind another from a place on, each with its place.
abbrev pub placed : ℕ → List (List ℕ) → List (ℕ × List ℕ)
placed at [] = []
placed at (piece ∷ rest) = (at, piece) ∷ placed (at + length piece) rest

-- The bytes of a file that had these, after pieces were put into it.
abbrev pub file_after : List ℕ → List (ℕ × List ℕ) → List ℕ
file_after bytes [] = bytes
file_after bytes (put ∷ rest) = file_after (written_at bytes put.0 put.1) rest

-- Pieces that are put into a file.
abbrev pub puts_into : List ℕ → List (ℕ × List ℕ) → List Write
puts_into name puts = map (λ (put : ℕ × List ℕ). Put name put.0 put.1) puts

-- Some of the writes were done, and then this one failed.
pub record StopsAt (writes : List Write) (failed : Write) (old new : Option Files) : Type 0 where
  pub before : List Write
  pub later : List Write
  pub split : before ++ failed ∷ later ≡ writes
  pub left : LeavesIn failed (option_map (after_writes before) old) new

-- Some of the writes were done, and no other.
pub record StopsBefore (writes : List Write) (old new : Option Files) : Type 0 where
  pub before : List Write
  pub later : List Write
  pub split : before ++ later ≡ writes
  pub left : new ≡ option_map (after_writes before) old

-- What a call that is to make these writes leaves in the store: after Ok all of them, after Failed
-- those before the one that failed, after Memory some of them, and after Broken none.
pub record Makes {T : Type 0} (writes : List Write) (old new : StoreView)
    (result : Result T WriteError) : Type 0 where
  pub done : OnOk result (new.files ≡ option_map (after_writes writes) old.files)
  pub failed : IsErrOf result write_error.Failed → (w : Write)
      × StopsAt writes w old.files new.files
  pub starved : IsErrOf result write_error.Memory → StopsBefore writes old.files new.files
  pub broken : IsErrOf result write_error.Broken → new.files ≡ old.files

-- A write was done, or nothing was.
abbrev pub IsPutOrNot : Write → Option Files → Option Files → Type 0
IsPutOrNot w old new = (new ≡ old) ⊎ (new ≡ option_map (after_writes (w ∷ [])) old)

-- What a call leaves that puts pieces into a file. After Ok the file has at least so many bytes,
-- and a store that tells its files still does; without memory its files are as `short` says.
pub record PutsInto {T : Type 0} (name : List ℕ) (writes : List Write) (end : ℕ)
    (short : Option Files → Type 0) (old new : StoreView)
    (result : Result T WriteError) : Type 0 where
  pub makes : Makes writes old new result
  pub longer : OnOk result (Holds new.files name (λ bytes. end ≤ length bytes))
  pub memory : IsErrOf result write_error.Memory → short new.files
  pub told : OnOk result (new.files ≡ None → old.files ≡ None)
  pub causes : HasWriteCauses (IsErrOf result write_error.Failed) old new
