-- A call of a component by the thread that has it in hand.
use Rattle.std.specs.Prelude.{◌≡◌, ◌≢◌, ◌⊎◌, Some, None}
use Rattle.cy_comp.specs.declared.call.Outcome.{Outcome}
use Rattle.cy_comp.specs.declared.state.State.TheVariants.{Ready}
use Rattle.cy_comp.specs.Calls.{last_outcome, held_until}
use Rattle.wake_core.specs.declared.phase.Phase.TheVariants.{Known, Checked, Stopping, Running}
use Rattle.wake_core.specs.declared.phase.Phase.TheVariants.{LastSending}
use Rattle.cy_table.specs.declared.pass.Pass.{Pass}
use Rattle.cy_table.specs.declared.hold.Hold.{Hold}
use Rattle.cy_table.specs.declared.table.FlagTable.{FlagTable}
use Rattle.cy_table.specs.Steps.{MaySend, phase_sent}
use Rattle.cy_table.specs.Plays.{in_hand}
use Rattle.cy_table.specs.Calls.{seat_of}
use Rattle.cy_run.specs.Passes.{IsInPhase}

-- A croutine in hand that is to be resumed; and one that isn't stopped, from which nothing waits to
-- be sent.
pub record IsReady (t : FlagTable) (p : Pass) (h : Hold) : Type 0 where
  pub known : IsInPhase t Known p h
  pub ready : (in_hand (seat_of p)).routine.state ≡ Ready

pub record HoldsNone (t : FlagTable) (p : Pass) (h : Hold) : Type 0 where
  pub checked : IsInPhase t Checked p h
  pub none_held : (in_hand (seat_of p)).routine.pending ≡ None

-- One from which an output waits that may be sent now; and it was, so that nothing waits.
pub record MaySendOut (t : FlagTable) (p : Pass) (h : Hold) : Type 0 where
  pub in_phase : IsInPhase t (in_hand (seat_of p)).phase p h
  pub waits : (in_hand (seat_of p)).routine.pending ≢ None
  pub may : MaySend (seat_of p) (in_hand (seat_of p))

pub record IsSent (t : FlagTable) (p q : Pass) (h : Hold) : Type 0 where
  pub in_phase : IsInPhase t (phase_sent (in_hand (seat_of p)).phase) q h
  pub none_waits : (in_hand (seat_of q)).routine.pending ≡ None
  pub kind : (in_hand (seat_of q)).routine.kind ≡ (in_hand (seat_of p)).routine.kind
  pub calls : (in_hand (seat_of q)).routine.calls ≡ (in_hand (seat_of p)).routine.calls

-- One that is stopped, from which nothing waits to be sent any more.
pub record IsEnding (t : FlagTable) (p : Pass) (h : Hold) : Type 0 where
  pub in_phase : IsInPhase t (in_hand (seat_of p)).phase p h
  pub stopped : let phase = (in_hand (seat_of p)).phase in
      (phase ≡ Stopping) ⊎ (phase ≡ LastSending)
  pub none_waits : (in_hand (seat_of p)).routine.pending ≡ None

-- One that was called, with this outcome, of which nothing waits but what that holds back.
pub record IsSentOut (t : FlagTable) (outcome : Outcome) (p : Pass) (h : Hold) : Type 0 where
  pub running : IsInPhase t Running p h
  pub outcome_is : let x = (in_hand (seat_of p)).routine in
      last_outcome x.kind x.calls ≡ Some outcome
  pub sent : held_until (Some outcome) ≡ None → (in_hand (seat_of p)).routine.pending ≡ None
