-- A file compared with the record of a tape.
use Rattle.std.specs.Prelude.{ℕ, ◌+◌, ◌≡◌, ◌==◌, if◌then◌else◌, List, [], ◌∷◌, Option, Some, None}
use Rattle.std.specs.Prelude.{option_map, Result, IfOk, IsErrOf}
use Rattle.cy_store.specs.Files.{Holds}
use Rattle.cy_store.specs.Store.{StoreView, HasCauses}
use Rattle.cy_msg.specs.declared.token.Token.{Token}
use Rattle.cy_section.specs.RecordText.{record_bytes}
use Rattle.cy_recording.specs.Recording.{Source, channels_of_tape, chunks_of_tape}
use Rattle.cy_recording.specs.declared.error.SameError.{SameError}
use Rattle.cy_recording.specs.declared.error.SameError.TheVariants as same_error

-- The first place, from 0, at which two texts differ. Where one of them is the front of the other
-- it is where that one ends, and there is none where they are equal.
abbrev pub first_difference : List ℕ → List ℕ → Option ℕ
first_difference [] [] = None
first_difference [] (b ∷ rest) = Some 0
first_difference (a ∷ rest) [] = Some 0
first_difference (a ∷ file) (b ∷ text) =
    if a == b then option_map (λ n. n + 1) (first_difference file text) else Some 0

-- The bytes of the record that is written of a tape, into a file of this name.
abbrev pub record_of_tape : (name : List ℕ) → Source → List Token → List ℕ
record_of_tape name s tape = record_bytes (channels_of_tape s tape) (chunks_of_tape name s tape)

-- What comparing a file with a text answers: where they first differ, if they do. The store is said
-- to have failed only where its count rose in the call, and no file is changed.
pub record SameAnswer (name text : List ℕ) (old new : StoreView)
    (result : Result (Option ℕ) SameError) : Type 0 where
  pub compared : IfOk result
      (λ place. Holds old.files name (λ bytes. place ≡ first_difference bytes text))
  pub same : new.files ≡ old.files
  pub causes : HasCauses (IsErrOf result same_error.Store) old new name
