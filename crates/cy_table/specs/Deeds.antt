-- The events that the calls of a thread make, by name.
use Rattle.std.specs.Prelude.{ℕ, List, [], ◌∷◌}
use Rattle.cy_msg.specs.declared.token.Token.{Token}
use Rattle.cy_comp.specs.declared.state.State.{State}
use Rattle.wake_core.specs.declared.phase.Phase.{Phase}

-- An event of a run, with what it is of, but without the thread that makes it.
pub data Deed : Type 0 where
  Acquire : (c : ℕ) → Deed
  Spend : (c seen : ℕ) → Deed
  Ready : (c : ℕ) → Deed
  Check : (c : ℕ) → Deed
  Ask : (c : ℕ) → Deed
  Fetch : (c : ℕ) → Deed
  Tape : Token → Deed
  Send : (c : ℕ) → (next : Phase) → Token → Deed
  Fill : (c role : ℕ) → Deed
  Look : (c : ℕ) → Deed
  Clear : (c : ℕ) → Deed
  Yield : (c : ℕ) → State → Deed
  Release : (c : ℕ) → Deed
  Tick : (time : ℕ) → Deed
  Close : Deed
  Stop : Deed

-- A deed, with the number of its step.
pub record Did : Type 0 where
  pub number : ℕ
  pub deed : Deed

abbrev pub numbers_of : List Did → List ℕ
numbers_of [] = []
numbers_of (d ∷ rest) = d.number ∷ numbers_of rest

abbrev pub deeds_of : List Did → List Deed
deeds_of [] = []
deeds_of (d ∷ rest) = d.deed ∷ deeds_of rest
