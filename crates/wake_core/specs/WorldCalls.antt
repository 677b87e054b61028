-- What the calls of a world need, and what they answer beside their events. A call may be made
-- where its event can happen, which is said by the event itself, up to the world that it leaves.
use Rattle.std.specs.Prelude.{ℕ, ◌+◌, ◌≡◌, ◌≢◌, ◌≤◌, ◌<◌, ◌⊎◌, Bool, true, false, Option, Some}
use Rattle.std.specs.Prelude.{None, List, [], length, option_map, slice_get}
use Rattle.std.specs.Option.{option_map_or}
use Rattle.cy_msg.specs.declared.token.Token.{Token}
use Rattle.cy_msg.specs.declared.token.Tuple.{Tuple}
use Rattle.cy_comp.specs.Calls.{output}
use Rattle.cy_comp.specs.Routine.{RoutineView}
use Rattle.wake_core.specs.Run.{Route, writes_from}
use Rattle.wake_core.specs.Plain.{Plain, Stop, Hand, hand, State, Phase, Known, Checked}
use Rattle.wake_core.specs.Plain.{Stopping, LastSending, Asked}
use Rattle.wake_core.specs.Planned.{planned}
use Rattle.wake_core.specs.declared.entries.TheConstants.{MOST_PLANNED}
use Rattle.wake_core.specs.Plain.{Running, Sending, Done, lists, taped_of, unsent_of}
use Rattle.wake_core.specs.Plain.{opening_world}
use Rattle.wake_core.specs.Events.{IsFree, Acquires, Spends, Readies, Checks, Stops, Asks, Tapes}
use Rattle.wake_core.specs.Events.{Sends, Yields, after_spend, after_ready, after_check}
use Rattle.wake_core.specs.Events.{after_stop, after_close, after_ask, after_tape, after_send}
use Rattle.wake_core.specs.Events.{after_yield, Closes}

-- The opening world: no component is to be stepped.
pub record IsNewWorld (routes : List Route) (counts : List ℕ) (stop : Option Stop) (w : Plain)
    (to_step : ℕ → Option Tuple) : Type 0 where
  pub opens : w ≡ opening_world routes counts stop
  pub stepped : (c : ℕ) → to_step c ≡ None

-- More entries are planned than a world keeps, and this many.
abbrev pub IsTooMany : (routes : List Route) → (counts : List ℕ) → ℕ → Type 0
IsTooMany routes counts count = (count ≡ planned routes counts) × (MOST_PLANNED < count)

-- The croutine that a thread has in hand; 0 where it has none.
abbrev pub in_hand : (p : ℕ) → Plain → ℕ
in_hand p w = option_map_or (λ (h : Hand). h.croutine) (w.hands p) 0

-- Acquire may be called for any croutine by a thread with nothing in hand.
pub record MayAcquire (p c : ℕ) (w : Plain) : Type 0 where
  pub thread : p ≤ 64
  pub known : c < length w.routes
  pub idle : w.hands p ≡ None

-- It takes a croutine that is free; where it is held nothing changes.
pub record Acquired (p c : ℕ) (answer : Bool) (w v : Plain) : Type 0 where
  pub taken : answer ≡ true → Acquires p c w v
  pub held : answer ≡ false → IsFree w.hands c → ⊥
  pub same : answer ≡ false → v ≡ w

abbrev pub MaySpend : (p : ℕ) → Plain → Type 0
MaySpend p w = Spends p (in_hand p w) w.clock w (after_spend p (in_hand p w) w)

abbrev pub MayReady : (p : ℕ) → Plain → Type 0
MayReady p w = Readies p (in_hand p w) w (after_ready p (in_hand p w) w)

abbrev pub MayCheck : (p : ℕ) → Plain → Type 0
MayCheck p w = Checks p (in_hand p w) w (after_check p (in_hand p w) w)

-- The stop may be raised, and the run be closed.
abbrev pub MayStop : Plain → Type 0
MayStop w = Stops w (after_stop w)

abbrev pub MayClose : Plain → Type 0
MayClose w = Closes w (after_close w)

abbrev pub MayAsk : (p : ℕ) → Plain → Type 0
MayAsk p w = Asks p (in_hand p w) w (after_ask p (in_hand p w) w)

abbrev pub MayFetch : (p : ℕ) → Plain → Type 0
MayFetch p w = w.hands p ≡ hand (in_hand p w) Asked

-- A tuple was fetched, on which the component in hand is still to be stepped.
pub record MayStep (p : ℕ) (tuple : Tuple) (w : Plain) (to_step : ℕ → Option Tuple) : Type 0 where
  pub held : w.hands p ≡ hand (in_hand p w) Running
  pub given : to_step (in_hand p w) ≡ Some tuple

-- The component in hand, where it runs, was stepped since its fetch.
abbrev pub IsStepped : (p : ℕ) → Plain → (to_step : ℕ → Option Tuple) → Type 0
IsStepped p w to_step = w.hands p ≡ hand (in_hand p w) Running → to_step (in_hand p w) ≡ None

-- The phase of a croutine whose output was sent: a held output is sent in a phase of its own, and
-- in another one where it is the last.
abbrev pub phase_sent : Option Hand → Phase
phase_sent None = Running
phase_sent (Some h) = by h.phase
  where
    by : Phase → Phase
    by Checked = Sending
    by Stopping = LastSending
    by _ = Running

-- A message comes onto the tape: of a channel that no component writes by the player, and else by
-- the holder of the component that writes it.
pub record MayTape (p : ℕ) (t : Token) (w : Plain) : Type 0 where
  pub player : writes_from 0 w.routes t.channel ≡ None → p ≡ 0
  pub played : writes_from 0 w.routes t.channel ≡ None → Tapes t w (after_tape 0 t w)
  pub sent : writes_from 0 w.routes t.channel ≢ None
      → Sends p (in_hand p w) (phase_sent (w.hands p)) t w
      (after_send p (in_hand p w) (phase_sent (w.hands p)) t w)

-- The croutine in hand that writes a channel, where there is one.
pub record IsSender (p channel : ℕ) (answer : Option Hand) (w : Plain) : Type 0 where
  pub held : (h : Hand) → answer ≡ Some h → w.hands p ≡ Some h
  pub writes : (h : Hand) (x : Route) → answer ≡ Some h → slice_get w.routes h.croutine ≡ Some x
      → x.out ≡ channel
  pub others : (h : Hand) (x : Route) → answer ≡ None → w.hands p ≡ Some h
      → slice_get w.routes h.croutine ≡ Some x → x.out ≢ channel

pub record Taped (p : ℕ) (t : Token) (w v : Plain) : Type 0 where
  pub played : writes_from 0 w.routes t.channel ≡ None → Tapes t w v
  pub sent : writes_from 0 w.routes t.channel ≢ None
      → Sends p (in_hand p w) (phase_sent (w.hands p)) t w v

-- A reader is the first that a thread has to fill, with this message.
pub record MayFill (p v j : ℕ) (t : Token) (w : Plain) : Type 0 where
  pub first : slice_get (w.fills p) 0 ≡ Some (v, j)
  pub token : w.tokens p ≡ t

-- A thread has filled all readers, and a component is the first of its news.
pub record MayLook (p c : ℕ) (w : Plain) : Type 0 where
  pub filled : w.fills p ≡ []
  pub first : slice_get (w.news p) 0 ≡ Some c

abbrev pub MayClear : (p c : ℕ) → Plain → Type 0
MayClear p c w = lists c (w.clearing p) ≡ true

abbrev pub MayYieldAs : (p : ℕ) → State → Plain → Type 0
MayYieldAs p state w = Yields p (in_hand p w) state w (after_yield p (in_hand p w) state w)

abbrev pub MayRelease : (p : ℕ) → Plain → Type 0
MayRelease p w = (w.hands p ≡ hand (in_hand p w) Done) ⊎ (w.hands p ≡ hand (in_hand p w) Known)

-- What the routine of a component shows of a run.
pub record IsRoutineOf (c : ℕ) (w : Plain) (r : RoutineView) : Type 0 where
  pub kind : (x : Route) → slice_get w.routes c ≡ Some x → r.kind ≡ x.kind
  pub state : r.state ≡ w.states c
  pub calls : r.calls ≡ w.calls c
  pub pending : (x : Route) → slice_get w.routes c ≡ Some x
      → unsent_of w c ≡ option_map (output x.out (taped_of w.routes w.tape c + 1)) r.pending
