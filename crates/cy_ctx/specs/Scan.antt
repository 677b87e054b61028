-- What a scan of a context needs of a thread's pass, and what it leaves.
use Rattle.std.specs.Prelude.{ℕ, ◌≡◌, ◌≤◌, ◌<◌, List, All, length}
use Rattle.cy_comp.specs.declared.state.State.TheVariants.{Ready}
use Rattle.wake_core.specs.declared.phase.Phase.TheVariants.{Known}
use Rattle.cy_table.specs.declared.pass.Pass.{Pass}
use Rattle.cy_table.specs.declared.hold.Hold.{Hold}
use Rattle.cy_table.specs.declared.table.FlagTable.{FlagTable}
use Rattle.cy_table.specs.Seats.{Seat}
use Rattle.cy_table.specs.Plays.{in_hand}
use Rattle.cy_table.specs.Calls.{made_of, seat_of, component_of, IsAt, HasNoHold, Holds, IsStepped}
use Rattle.cy_ctx.specs.Note.{IsVain, EndsAt, GrewBy}

-- The pass has nothing in hand, and the components are those of the table.
pub record MayScan (t : FlagTable) (order : List ℕ) (p : Pass) : Type 0 where
  pub at : IsAt t p
  pub free : HasNoHold p
  pub inside : All (λ c. c < length (made_of t).routes) order

-- All but what is in hand, the calls seen, the clock and the note stays, and the clock never falls.
pub record Looked (v u : Seat) : Type 0 where
  pub same : u ≡ record v { hand = u.hand; seen = u.seen; clock = u.clock; note = u.note }
  pub later : v.clock ≤ u.clock

-- None was READY: nothing is in hand.
pub record Passes (order : List ℕ) (p q : Pass) : Type 0 where
  pub free : HasNoHold q
  pub looked : Looked (seat_of p) (seat_of q)
  pub noted : GrewBy (IsVain order) (seat_of p).note (seat_of q).note

-- The first that was READY is in hand, in phase Known.
pub record Takes (t : FlagTable) (order : List ℕ) (p q : Pass) (h : Hold) : Type 0 where
  pub holds : Holds t q h
  pub stepped : IsStepped h
  pub known : (in_hand (seat_of q)).phase ≡ Known
  pub ready : (in_hand (seat_of q)).routine.state ≡ Ready
  pub looked : Looked (seat_of p) (seat_of q)
  pub noted : GrewBy (EndsAt order (component_of h)) (seat_of p).note (seat_of q).note
