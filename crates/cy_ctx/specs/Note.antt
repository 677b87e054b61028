-- What a thread at the table noted, read as what it found.
use Rattle.std.specs.Prelude.{ℕ, ◌≡◌, Bool, List, [], ◌∷◌, ◌++◌, map, filter, Option, Some, None}
use Rattle.std.specs.Option.{option_map_or}
use Rattle.std.specs.Prelude.{false}
use Rattle.cy_comp.specs.declared.state.State.{State}
use Rattle.cy_comp.specs.declared.state.State.TheVariants.{Ready}
use Rattle.wake_core.specs.Turns.{is_ready}
use Rattle.cy_table.specs.Seats.{Entry}
use Rattle.cy_table.specs.Seats.Entry.{Busy, Found, Saw, Clock, Closing}

-- The croutines that were taken or found held, in order, each with its state after the update; with
-- none where it was held.
abbrev pub found_in : List Entry → List (ℕ × Option State)
found_in [] = []
found_in (Busy c ∷ rest) = (c, None) ∷ found_in rest
found_in (Found c state ∷ rest) = (c, Some state) ∷ found_in rest
found_in (Saw c visitor ∷ rest) = found_in rest
found_in (Clock time ∷ rest) = found_in rest
found_in (Closing found ∷ rest) = found_in rest

-- What the loads of the word found that says whether the run is closing, in order.
abbrev pub closings_in : List Entry → List Bool
closings_in [] = []
closings_in (Busy c ∷ rest) = closings_in rest
closings_in (Found c state ∷ rest) = closings_in rest
closings_in (Saw c visitor ∷ rest) = closings_in rest
closings_in (Clock time ∷ rest) = closings_in rest
closings_in (Closing found ∷ rest) = found ∷ closings_in rest

-- Whether a croutine was found READY.
abbrev pub was_ready : ℕ × Option State → Bool
was_ready found = option_map_or is_ready found.1 false

-- The entries of a scan in vain: of each croutine of the order, in that order, that it was held or
-- not READY after its update; and nothing of closing.
pub record IsVain (order : List ℕ) (entries : List Entry) : Type 0 where
  pub each : map (λ found. found.0) (found_in entries) ≡ order
  pub none_ready : filter was_ready (found_in entries) ≡ []
  pub no_load : closings_in entries ≡ []

-- Those of a scan that ended at a croutine: a scan in vain of those before it, and then that it was
-- READY after its update.
pub record EndsAt (order : List ℕ) (c : ℕ) (entries : List Entry) : Type 0 where
  pub before : List ℕ
  pub after : List ℕ
  pub passed : List Entry
  pub last : List Entry
  pub there : order ≡ before ++ c ∷ after
  pub parts : entries ≡ passed ++ last
  pub vain : IsVain before passed
  pub taken : found_in last ≡ (c, Some Ready) ∷ []
  pub no_load : closings_in last ≡ []

-- A note grew by such entries.
pub record GrewBy (is_such : List Entry → Type 0) (old new : List Entry) : Type 0 where
  pub entries : List Entry
  pub grown : new ≡ old ++ entries
  pub such : is_such entries
