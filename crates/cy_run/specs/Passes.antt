-- What a thread at the table has between its steps.
use Rattle.std.specs.Prelude.{◌≡◌, List, [], None}
use Rattle.cy_comp.specs.declared.plan.Plan.{Plan}
use Rattle.wake_core.specs.declared.phase.Phase.{Phase}
use Rattle.wake_core.specs.Run.{routes_of}
use Rattle.cy_table.specs.declared.pass.Pass.{Pass}
use Rattle.cy_table.specs.declared.hold.Hold.{Hold}
use Rattle.cy_table.specs.declared.table.FlagTable.{FlagTable}
use Rattle.cy_table.specs.Steps.{OwesNone}
use Rattle.cy_table.specs.Plays.{in_hand}
use Rattle.cy_table.specs.Calls.{made_of, seat_of, thread_of, IsAt, Holds, IsStepped}

-- The table's world was made for these components.
abbrev pub IsMadeOf : FlagTable → List Plan → Type 0
IsMadeOf t plans = (made_of t).routes ≡ routes_of plans

-- A pass of the table, which knows what the table is for and is behind no door.
pub record IsSeated (t : FlagTable) (p : Pass) : Type 0 where
  pub at : IsAt t p
  pub here : (seat_of p).live ≡ 1
  pub routes : (seat_of p).routes ≡ (made_of t).routes
  pub counts : (seat_of p).counts ≡ (made_of t).counts
  pub stop : (seat_of p).stop ≡ (made_of t).stop
  pub visit : (seat_of p).visit ≡ None
  pub tape : (seat_of p).tape ≡ None

-- .. with nothing in hand, and nothing owed.
pub record IsFree (t : FlagTable) (p : Pass) : Type 0 where
  pub seated : IsSeated t p
  pub hand : (seat_of p).hand ≡ None
  pub owes : OwesNone (seat_of p)
  pub out : (thread_of p).1 ≡ []

-- .. with just this croutine in hand, in a phase, and nothing owed.
pub record IsInPhase (t : FlagTable) (phase : Phase) (p : Pass) (h : Hold) : Type 0 where
  pub seated : IsSeated t p
  pub holds : Holds t p h
  pub stepped : IsStepped h
  pub phase_is : (in_hand (seat_of p)).phase ≡ phase
  pub owes : OwesNone (seat_of p)
