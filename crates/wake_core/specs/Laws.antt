-- The laws of the events. Each event keeps the holders and states (`held`), with calls, deliveries,
-- causes and room beside them (`consistent`), and all that holds of a world (`sound`); and each
-- component keeps the calls that it had (`calls`). The first two ask only for the conditions that
-- they need.
use Rattle.std.specs.Prelude.{ℕ, ◌≡◌, ◌≢◌, ◌⊎◌, ◌≤◌, ◌<◌, true, List, [], ◌∷◌, ◌++◌, length, take}
use Rattle.std.specs.Prelude.{map, sum, Option, Some, None, slice_get, option_map}
use Rattle.cy_msg.specs.declared.token.Token.{Token}
use Rattle.cy_msg.specs.declared.token.Tuple.{Tuple}
use Rattle.cy_msg.specs.Tuple.{messages_of}
use Rattle.cy_fuse.specs.Fusion.{Arrival}
use Rattle.cy_fuse.specs.Visitor.{VisitorView, visited}
use Rattle.cy_comp.specs.declared.call.Call.{Call}
use Rattle.cy_comp.specs.declared.plan.Plan.{Plan}
use Rattle.cy_comp.specs.Routine.{RoutineView, answer_to}
use Rattle.cy_comp.specs.Step.{out_of}
use Rattle.cy_comp.specs.Wiring.{IsWiring}
use Rattle.wake_core.specs.declared.entries.TheConstants.{MOST_PLANNED}
use Rattle.wake_core.specs.Run.{Route, routes_of, set_at, writes_from}
use Rattle.wake_core.specs.Planned.{planned_count, first_reader, counts_from}
use Rattle.wake_core.specs.Plain.{Plain, Stop, hand, State, Ready, Finished, Phase, Fresh, Woken}
use Rattle.wake_core.specs.Plain.{Known, Checked, Asked, Done, opening_world}
use Rattle.wake_core.specs.Plain.{unsent_of}
use Rattle.wake_core.specs.Events.{IsFree, OwesNothing, next_call, IsNext, MaySend, MayYield}
use Rattle.wake_core.specs.Events.{after_acquire, after_spend, after_ready, after_check, after_stop}
use Rattle.wake_core.specs.Events.{after_ask, after_fetch}
use Rattle.wake_core.specs.Events.{after_tape, after_send, after_fill, after_look, after_clear}
use Rattle.wake_core.specs.Events.{after_yield, after_release, Acquires, Spends, Readies}
use Rattle.wake_core.specs.Events.{Checks, Stops, Asks}
use Rattle.wake_core.specs.Events.{Fetches, Tapes, Sends, Fills, Looks, Clears, Yields, Releases}
use Rattle.wake_core.specs.Events.{Ticks, Closes}
use Rattle.wake_core.specs.Sound.{IsWired, StandsOn, HeldIn, Consistent, Sound}
use Rattle.wake_core.specs.Fields.{IsFixed, queue_of}
use Rattle.wake_core.specs.LawfulRun.{Lost}

-- An event keeps all that holds of a world.
abbrev pub KeepsSound : (Plain → Plain → Type 0) → Type 0
KeepsSound event = (w v : Plain) → event w v → Sound w → Sound v

-- After an event each component has the calls that it had, and perhaps more behind them.
abbrev pub KeepsCalls : (Plain → Plain → Type 0) → Type 0
KeepsCalls event = (w v : Plain) → event w v → (c : ℕ)
    → take (length (w.calls c)) (v.calls c) ≡ w.calls c

pub record AcquireLaws : Type 0 where
  pub held : (p c : ℕ) (w : Plain) → c < length w.routes → w.hands p ≡ None → IsFree w.hands c
      → HeldIn w
      → HeldIn (after_acquire p c w)
  pub consistent : (p c : ℕ) (w : Plain) → c < length w.routes → w.hands p ≡ None → IsFree w.hands c
      → Consistent w
      → Consistent (after_acquire p c w)
  pub sound : (p c : ℕ) → KeepsSound (Acquires p c)
  pub calls : (p c : ℕ) → KeepsCalls (Acquires p c)

pub record SpendLaws : Type 0 where
  pub held : (p c : ℕ) (w : Plain) → w.hands p ≡ hand c Fresh → HeldIn w
      → HeldIn (after_spend p c w)
  pub consistent : (p c : ℕ) (w : Plain) → w.hands p ≡ hand c Fresh → Consistent w
      → Consistent (after_spend p c w)
  pub sound : (p c seen : ℕ) → KeepsSound (Spends p c seen)
  pub calls : (p c seen : ℕ) → KeepsCalls (Spends p c seen)

pub record ReadyLaws : Type 0 where
  pub held : (p c : ℕ) (w : Plain) → (w.hands p ≡ hand c Woken) ⊎ (w.hands p ≡ hand c Fresh)
      → w.states c ≢ Finished → HeldIn w
      → HeldIn (after_ready p c w)
  pub consistent : (p c : ℕ) (w : Plain) → (w.hands p ≡ hand c Woken) ⊎ (w.hands p ≡ hand c Fresh)
      → w.states c ≢ Finished
      → Consistent w → Consistent (after_ready p c w)
  pub sound : (p c : ℕ) → KeepsSound (Readies p c)
  pub calls : (p c : ℕ) → KeepsCalls (Readies p c)

pub record CheckLaws : Type 0 where
  pub held : (p c : ℕ) (w : Plain) → w.hands p ≡ hand c Known → w.states c ≡ Ready → HeldIn w
      → HeldIn (after_check p c w)
  pub consistent : (p c : ℕ) (w : Plain) → w.hands p ≡ hand c Known → w.states c ≡ Ready
      → Consistent w
      → Consistent (after_check p c w)
  pub sound : (p c : ℕ) → KeepsSound (Checks p c)
  pub calls : (p c : ℕ) → KeepsCalls (Checks p c)

pub record StopLaws : Type 0 where
  pub held : (w : Plain) → HeldIn w → HeldIn (after_stop w)
  pub consistent : (w : Plain) → Consistent w → Consistent (after_stop w)
  pub sound : KeepsSound Stops
  pub calls : KeepsCalls Stops

pub record AskLaws : Type 0 where
  pub held : (p c : ℕ) (w : Plain) → w.hands p ≡ hand c Checked → unsent_of w c ≡ None → HeldIn w
      → HeldIn (after_ask p c w)
  pub consistent : (p c : ℕ) (w : Plain) → w.hands p ≡ hand c Checked → unsent_of w c ≡ None
      → Consistent w
      → Consistent (after_ask p c w)
  pub sound : (p c : ℕ) → KeepsSound (Asks p c)
  pub calls : (p c : ℕ) → KeepsCalls (Asks p c)

pub record FetchLaws : Type 0 where
  pub held : (p c : ℕ) (w : Plain) → w.hands p ≡ hand c Asked → HeldIn w
      → HeldIn (after_fetch p c (next_call w c) w)
  pub consistent : (p c : ℕ) (w : Plain) → w.hands p ≡ hand c Asked → Consistent w
      → Consistent (after_fetch p c (next_call w c) w)
  pub sound : (p c : ℕ) → KeepsSound (Fetches p c)
  pub calls : (p c : ℕ) → KeepsCalls (Fetches p c)

pub record TapeLaws : Type 0 where
  pub held : (t : Token) (w : Plain) → writes_from 0 w.routes t.channel ≡ None → HeldIn w
      → HeldIn (after_tape 0 t w)
  pub consistent : (t : Token) (w : Plain) → OwesNothing 0 w → IsNext t w → Consistent w
      → Consistent (after_tape 0 t w)
  pub sound : (t : Token) → KeepsSound (Tapes t)
  pub calls : (t : Token) → KeepsCalls (Tapes t)

pub record SendLaws : Type 0 where
  pub held : (p c : ℕ) (next : Phase) (t : Token) (w : Plain) → MaySend p c next w
      → unsent_of w c ≡ Some t
      → IsWired w.routes w.counts → HeldIn w → HeldIn (after_send p c next t w)
  pub consistent : (p c : ℕ) (next : Phase) (t : Token) (w : Plain) → MaySend p c next w
      → unsent_of w c ≡ Some t → OwesNothing p w
      → Consistent w → Consistent (after_send p c next t w)
  -- Nothing is unsent then.
  pub all : (p c : ℕ) (next : Phase) (t : Token) (w : Plain) → MaySend p c next w
      → unsent_of w c ≡ Some t → Consistent w → unsent_of (after_send p c next t w) c ≡ None
  pub sound : (p c : ℕ) (next : Phase) (t : Token) → KeepsSound (Sends p c next t)
  pub calls : (p c : ℕ) (next : Phase) (t : Token) → KeepsCalls (Sends p c next t)

pub record FillLaws : Type 0 where
  pub held : (p v j : ℕ) (later : List (ℕ × ℕ)) (w : Plain) → HeldIn w
      → HeldIn (after_fill p v j later w)
  pub consistent : (p v j : ℕ) (later : List (ℕ × ℕ)) (w : Plain) → w.fills p ≡ (v, j) ∷ later
      → Consistent w
      → Consistent (after_fill p v j later w)
  pub sound : (p v j : ℕ) → KeepsSound (Fills p v j)
  pub calls : (p v j : ℕ) → KeepsCalls (Fills p v j)

pub record LookLaws : Type 0 where
  pub held : (p c : ℕ) (later : List ℕ) (w : Plain) → HeldIn w → HeldIn (after_look p c later w)
  pub consistent : (p c : ℕ) (later : List ℕ) (w : Plain) → w.news p ≡ c ∷ later → Consistent w
      → Consistent (after_look p c later w)
  pub sound : (p c : ℕ) → KeepsSound (Looks p c)
  pub calls : (p c : ℕ) → KeepsCalls (Looks p c)

pub record ClearLaws : Type 0 where
  pub held : (p c : ℕ) (rest : List ℕ) (w : Plain) → HeldIn w → HeldIn (after_clear p c rest w)
  pub consistent : (p c : ℕ) (before after : List ℕ) (w : Plain)
      → w.clearing p ≡ before ++ c ∷ after → Consistent w
      → Consistent (after_clear p c (before ++ after) w)
  pub sound : (p c : ℕ) → KeepsSound (Clears p c)
  pub calls : (p c : ℕ) → KeepsCalls (Clears p c)

pub record YieldLaws : Type 0 where
  pub held : (p c : ℕ) (state : State) (w : Plain) → MayYield p c state w → HeldIn w
      → HeldIn (after_yield p c state w)
  pub consistent : (p c : ℕ) (state : State) (w : Plain) → w.fills p ≡ [] → MayYield p c state w
      → Consistent w
      → Consistent (after_yield p c state w)
  pub sound : (p c : ℕ) (state : State) → KeepsSound (Yields p c state)
  pub calls : (p c : ℕ) (state : State) → KeepsCalls (Yields p c state)

pub record ReleaseLaws : Type 0 where
  pub held : (p c : ℕ) (w : Plain) → (w.hands p ≡ hand c Done) ⊎ (w.hands p ≡ hand c Known)
      → HeldIn w
      → HeldIn (after_release p w)
  pub consistent : (p c : ℕ) (w : Plain) → (w.hands p ≡ hand c Done) ⊎ (w.hands p ≡ hand c Known)
      → Consistent w
      → Consistent (after_release p w)
  pub sound : (p c : ℕ) → KeepsSound (Releases p c)
  pub calls : (p c : ℕ) → KeepsCalls (Releases p c)

pub record TickLaws : Type 0 where
  pub held : (time : ℕ) (w : Plain) → HeldIn w → HeldIn record w { clock = time }
  pub consistent : (time : ℕ) (w : Plain) → Consistent w → Consistent record w { clock = time }
  pub sound : (time : ℕ) → KeepsSound (Ticks time)
  pub calls : (time : ℕ) → KeepsCalls (Ticks time)

pub record CloseLaws : Type 0 where
  pub held : (w : Plain) → HeldIn w → HeldIn record w { closing = true }
  pub consistent : (w : Plain) → Consistent w → Consistent record w { closing = true }
  pub sound : KeepsSound Closes
  pub calls : KeepsCalls Closes

-- Any event.
pub data Event : Plain → Plain → Type 0 where
  acquire : {p c : ℕ} {w v : Plain} → Acquires p c w v → Event w v
  spend : {p c seen : ℕ} {w v : Plain} → Spends p c seen w v → Event w v
  ready : {p c : ℕ} {w v : Plain} → Readies p c w v → Event w v
  check : {p c : ℕ} {w v : Plain} → Checks p c w v → Event w v
  stop : {w v : Plain} → Stops w v → Event w v
  ask : {p c : ℕ} {w v : Plain} → Asks p c w v → Event w v
  fetch : {p c : ℕ} {w v : Plain} → Fetches p c w v → Event w v
  tape : {t : Token} {w v : Plain} → Tapes t w v → Event w v
  send : {p c : ℕ} {next : Phase} {t : Token} {w v : Plain} → Sends p c next t w v → Event w v
  fill : {p u j : ℕ} {w v : Plain} → Fills p u j w v → Event w v
  look : {p c : ℕ} {w v : Plain} → Looks p c w v → Event w v
  clear : {p c : ℕ} {w v : Plain} → Clears p c w v → Event w v
  yield_as : {p c : ℕ} {state : State} {w v : Plain} → Yields p c state w v → Event w v
  release : {p c : ℕ} {w v : Plain} → Releases p c w v → Event w v
  tick : {time : ℕ} {w v : Plain} → Ticks time w v → Event w v
  close : {w v : Plain} → Closes w v → Event w v

-- Any events, one after another.
pub data Events : Plain → Plain → Type 0 where
  none : {w : Plain} → Events w w
  more : {w m v : Plain} → Event w m → Events m v → Events w v

-- After any events from the opening: all of it holds, no croutine is lost, and none has two
-- holders.
pub record RunLaws : Type 0 where
  pub opening : (routes : List Route) (counts : List ℕ) (stop : Option Stop)
      → IsWired routes counts → Sound (opening_world routes counts stop)
  pub sound : (w v : Plain) → Events w v → Sound w → Sound v
  pub none_lost : (w : Plain) → Sound w → (c : ℕ) → Lost w c → ⊥
  pub one_holder : (w : Plain) → HeldIn w → (c p q : ℕ) (f g : Phase) → w.hands p ≡ hand c f
      → w.hands q ≡ hand c g → p ≡ q
  pub calls : (w v : Plain) → Events w v → (c : ℕ)
      → take (length (w.calls c)) (v.calls c) ≡ w.calls c

-- Every message that arrived stands on the tape.
pub record TapedLaws : Type 0 where
  pub arrived : (w : Plain) → Consistent w → (v n : ℕ) (a : Arrival)
      → slice_get (w.arrivals v) n ≡ Some a → StandsOn w.tape a.1

-- A world in which a thread has nothing in hand and owes nothing, whatever it had.
abbrev pub with_idle : (p : ℕ) → Token → Plain → Plain
with_idle p t w = record w {
  hands = set_at p None w.hands;
  fills = set_at p [] w.fills;
  news = set_at p [] w.news;
  clearing = set_at p [] w.clearing;
  tokens = set_at p t w.tokens;
}

-- A thread has nothing in hand and owes nothing.
pub record IsIdle (p : ℕ) (w : Plain) : Type 0 where
  pub hand : w.hands p ≡ None
  pub owes : OwesNothing p w

-- Threads: an idle one tells nothing, so that one may be added; and where all are idle, others may
-- stand in their place.
pub record ThreadLaws : Type 0 where
  pub held : (p : ℕ) (t : Token) (w : Plain) → IsIdle p w → HeldIn w → HeldIn (with_idle p t w)
  pub consistent : (p : ℕ) (t : Token) (w : Plain) → IsIdle p w → Consistent w
      → Consistent (with_idle p t w)
  pub sound : (p : ℕ) (t : Token) (w : Plain) → IsIdle p w → Sound w → Sound (with_idle p t w)
  pub replaced : (w v : Plain) → ((p : ℕ) → IsIdle p w) → ((p : ℕ) → IsIdle p v)
      → v ≡ record w {
        hands = v.hands;
        fills = v.fills;
        news = v.news;
        clearing = v.clearing;
        tokens = v.tokens;
      }
      → Sound w → Sound v

-- Two worlds are the same, but perhaps for what they say of numbers that are no component's.
pub record AgreesWithin (w v : Plain) : Type 0 where
  pub same : v ≡ record w {
    states = v.states;
    spent = v.spent;
    cursors = v.cursors;
    calls = v.calls;
    arrivals = v.arrivals;
  }
  pub states : (c : ℕ) → c < length w.routes → v.states c ≡ w.states c
  pub spent : (c : ℕ) → c < length w.routes → v.spent c ≡ w.spent c
  pub cursors : (c : ℕ) → c < length w.routes → v.cursors c ≡ w.cursors c
  pub calls : (c : ℕ) → c < length w.routes → v.calls c ≡ w.calls c
  pub arrivals : (c : ℕ) → c < length w.routes → v.arrivals c ≡ w.arrivals c

-- Numbers from this one on are READY, and nothing arrived there.
pub record SaysNothing (from : ℕ) (w : Plain) : Type 0 where
  pub states : (c : ℕ) → from ≤ c → w.states c ≡ Ready
  pub arrivals : (c : ℕ) → from ≤ c → w.arrivals c ≡ []

-- What a world says of numbers that are no component's is nothing to what holds of it.
pub record OutsideLaws : Type 0 where
  pub sound : (w v : Plain) → AgreesWithin w v → SaysNothing (length w.routes) v → Sound w → Sound v

-- There is room: an output that is to be sent, and a message that is to be played, leave room on
-- the tape; one that is to arrive leaves room at its reader; and a call that a fetch makes leaves
-- room among the component's calls.
pub record RoomLaws : Type 0 where
  pub output : (w : Plain) (c : ℕ) (t : Token) → unsent_of w c ≡ Some t → Consistent w
      → length w.tape < counts_from w.routes w.counts 0 (length w.counts)
  pub message : (w : Plain) (t : Token) → IsNext t w → Consistent w
      → length w.tape < counts_from w.routes w.counts 0 (length w.counts)
  pub next_arrival : (w : Plain) (p v j : ℕ) (later : List (ℕ × ℕ)) (x : Route)
      → w.fills p ≡ (v, j) ∷ later → slice_get w.routes v ≡ Some x
      → Consistent w → length (w.arrivals v) < sum (map (planned_count w.routes w.counts) x.readers)
  pub call : (w : Plain) (p c : ℕ) (x : Route) (call : Call) → w.hands p ≡ hand c Asked
      → next_call w c ≡ Some call
      → slice_get w.routes c ≡ Some x → Consistent w
      → length (w.calls c) < planned_count w.routes w.counts (first_reader x)

-- The tape has no more messages than a world keeps.
pub record LimitLaws : Type 0 where
  pub tape : (w : Plain) → Consistent w → IsFixed w.routes w.counts → length w.tape ≤ MOST_PLANNED

-- The call that a tuple makes which a fetch found, with its position and the tail.
abbrev pub call_of : RoutineView → (Tuple × ℕ × ℕ) → Call
call_of r f = record {
  position = f.1;
  tail = f.2;
  tuple = f.0;
  out = out_of (answer_to r f.0);
}

-- A routine and a visitor show the calls and the arrivals of a component.
pub record ShowsComponent (w : Plain) (c : ℕ) (x : Route) (r : RoutineView) (v : VisitorView)
    : Type 0 where
  pub kind : r.kind ≡ x.kind
  pub calls : r.calls ≡ w.calls c
  pub arrivals : v.arrivals ≡ w.arrivals c
  pub roles : v.roles ≡ length x.readers
  pub queue : v.queue ≡ queue_of w.routes w.counts x
  pub overflow : v.overflow ≡ x.overflow

-- What a fetch finds: a tuple with one message of each reader, at a position that is no more than
-- what is planned for the component; and that is no more than a world keeps. It is what the
-- component's visitor finds.
pub record FoundLaws : Type 0 where
  pub messages : (w : Plain) (c : ℕ) (x : Route) (call : Call) → next_call w c ≡ Some call
      → slice_get w.routes c ≡ Some x → IsFixed w.routes w.counts
      → length (messages_of call.tuple) ≡ length x.readers
  pub position : (w : Plain) (c : ℕ) (x : Route) (call : Call) → next_call w c ≡ Some call
      → slice_get w.routes c ≡ Some x → Consistent w
      → call.position ≤ planned_count w.routes w.counts (first_reader x)
  pub planned : (routes : List Route) (counts : List ℕ) (c : ℕ) (x : Route)
      → slice_get routes c ≡ Some x → IsFixed routes counts
      → planned_count routes counts (first_reader x) ≤ MOST_PLANNED
  pub visitor : (w : Plain) (c : ℕ) (x : Route) (r : RoutineView) (v : VisitorView)
      → ShowsComponent w c x r v → slice_get w.routes c ≡ Some x → 1 ≤ x.queue → Consistent w
      → next_call w c ≡ option_map (call_of r) (visited (w.cursors c) v)

-- A wiring's components are wired, whatever is played.
pub record WiringLaws : Type 0 where
  pub wired : (names : List (List ℕ)) (plans : List Plan) (counts : List ℕ) → IsWiring names plans
      → length counts ≡ length names
      → IsWired (routes_of plans) counts
