-- What may happen in a run: fifteen events, each with its condition and its effect. `after_` names
-- the world that an event leaves. Thread 0 is the player. Taking a croutine that is held is no
-- event, and changes nothing.
use Rattle.std.specs.Prelude.{ℕ, ◌+◌, ◌-◌, ◌≡◌, ◌≢◌, ◌≤◌, ◌<◌, ◌⊎◌, ◌==◌, ◌&&◌, Bool, true, false}
use Rattle.std.specs.Prelude.{not, List, [], ◌∷◌, ◌++◌, length, if◌then◌else◌, Option, Some, None}
use Rattle.std.specs.Prelude.{option_map, option_and_then, slice_get, slice_index}
use Rattle.cy_msg.specs.declared.token.Token.{Token}
use Rattle.cy_msg.specs.declared.token.Tuple.{Tuple}
use Rattle.cy_msg.specs.Tokens.{on_channel}
use Rattle.cy_fuse.specs.Fusion.{fused}
use Rattle.cy_comp.specs.declared.call.Call.{Call}
use Rattle.cy_comp.specs.declared.call.Outcome.{Outcome}
use Rattle.cy_comp.specs.declared.call.Outcome.TheVariants.{Emit, Hold, Last}
use Rattle.cy_comp.specs.Step.{outcome_after, out_of}
use Rattle.cy_comp.specs.Calls.{tuples_of, held_until}
use Rattle.wake_core.specs.Run.{Route, set_at, readers_of, writes_from}
use Rattle.wake_core.specs.Plain.{Plain, Stop, Hand, hand, State, Ready, DataWait, Sleep, Finished}
use Rattle.wake_core.specs.Plain.{Phase, Fresh, Woken, Known, Checked, Stopping, Asked, Empty}
use Rattle.wake_core.specs.Plain.{Running, Sending, LastSending, Done, stops}
use Rattle.wake_core.specs.Plain.{last_of, unsent_of, tail_at, found_by, played_count, to_play}

-- Nobody holds a croutine.
abbrev pub IsFree : (ℕ → Option Hand) → ℕ → Type 0
IsFree hands c = (p : ℕ) (phase : Phase) → hands p ≢ hand c phase

-- A thread owes nothing.
pub record OwesNothing (p : ℕ) (w : Plain) : Type 0 where
  pub filled : w.fills p ≡ []
  pub looked : w.news p ≡ []
  pub cleared : w.clearing p ≡ []

-- A croutine is due: it sleeps until a time that a clock is past.
abbrev pub IsDue : State → (clock : ℕ) → Type 0
IsDue Ready clock = ⊥
IsDue DataWait clock = ⊥
IsDue (Sleep until) clock = until < clock
IsDue Finished clock = ⊥

-- Whether a state is DATA_WAIT.
abbrev pub is_waiting : State → Bool
is_waiting Ready = false
is_waiting DataWait = true
is_waiting (Sleep until) = false
is_waiting Finished = false

-- Whether a state is FINISHED.
abbrev pub is_finished : State → Bool
is_finished Ready = false
is_finished DataWait = false
is_finished (Sleep until) = false
is_finished Finished = true

-- Whether a state is READY.
abbrev pub is_ready : State → Bool
is_ready Ready = true
is_ready DataWait = false
is_ready (Sleep until) = false
is_ready Finished = false

-- Acquire: a thread with nothing in hand takes a croutine that is free.
abbrev pub after_acquire : (p c : ℕ) → Plain → Plain
after_acquire p c w = record w { hands = set_at p (hand c Fresh) w.hands }

pub record Acquires (p c : ℕ) (w v : Plain) : Type 0 where
  pub known : c < length w.routes
  pub idle : w.hands p ≡ None
  pub free : IsFree w.hands c
  pub effect : v ≡ after_acquire p c w

-- Spend: the holder spends the flag of a croutine that was not due at a clock which it saw. A clear
-- flag wakes one that waits.
abbrev pub phase_after_spend : State → (was_spent : Bool) → Phase
phase_after_spend state was_spent = if is_waiting state && not was_spent then Woken else Known

abbrev pub after_spend : (p c : ℕ) → Plain → Plain
after_spend p c w = record w {
  spent = set_at c true w.spent;
  hands = set_at p (hand c (phase_after_spend (w.states c) (w.spent c))) w.hands;
}

pub record Spends (p c seen : ℕ) (w v : Plain) : Type 0 where
  pub held : w.hands p ≡ hand c Fresh
  pub past : seen ≤ w.clock
  pub not_due : IsDue (w.states c) seen → ⊥
  pub effect : v ≡ after_spend p c w

-- Ready: the holder makes READY a croutine that was woken, or that is due.
abbrev pub after_ready : (p c : ℕ) → Plain → Plain
after_ready p c w = record w {
  states = set_at c Ready w.states;
  hands = set_at p (hand c Known) w.hands;
}

pub record Readies (p c : ℕ) (w v : Plain) : Type 0 where
  pub held : (w.hands p ≡ hand c Woken) ⊎ ((w.hands p ≡ hand c Fresh) × IsDue (w.states c) w.clock)
  pub effect : v ≡ after_ready p c w

-- Check: before anything else the holder of a READY croutine looks whether the raised stop names
-- it.
abbrev pub phase_after_check : Plain → ℕ → Phase
phase_after_check w c = if stops w.stop w.raised c then Stopping else Checked

abbrev pub after_check : (p c : ℕ) → Plain → Plain
after_check p c w = record w { hands = set_at p (hand c (phase_after_check w c)) w.hands }

pub record Checks (p c : ℕ) (w v : Plain) : Type 0 where
  pub held : w.hands p ≡ hand c Known
  pub ready : w.states c ≡ Ready
  pub effect : v ≡ after_check p c w

-- Stop: the player raises the stop, when as many messages were played as it says.
abbrev pub after_stop : Plain → Plain
after_stop w = record w { raised = true }

pub record Stops (w v : Plain) : Type 0 where
  pub owes : OwesNothing 0 w
  pub given : Stop
  pub there : w.stop ≡ Some given
  pub unraised : w.raised ≡ false
  pub played : played_count w ≡ given.after
  pub effect : v ≡ after_stop w

-- Where a stop is given, it is raised.
abbrev pub IsRaised : Plain → Type 0
IsRaised w = (s : Stop) → w.stop ≡ Some s → w.raised ≡ true

-- Ask: before a fetch the holder of a READY croutine stores that it waits again.
abbrev pub after_ask : (p c : ℕ) → Plain → Plain
after_ask p c w = record w {
  states = set_at c DataWait w.states;
  hands = set_at p (hand c Asked) w.hands;
}

pub record Asks (p c : ℕ) (w v : Plain) : Type 0 where
  pub held : w.hands p ≡ hand c Checked
  pub none_held : unsent_of w c ≡ None
  pub effect : v ≡ after_ask p c w

-- The call that a fetch by a component would make: on the tuple that the fetch rule finds, with the
-- tail as it is now.
abbrev pub call_on : Route → Plain → (c position : ℕ) → Tuple → Call
call_on x w c position tuple = record {
  position = position;
  tail = tail_at x w c;
  tuple = tuple;
  out = out_of (outcome_after x.kind (tuples_of (w.calls c)) tuple);
}

abbrev pub next_call : Plain → (c : ℕ) → Option Call
next_call w c = option_and_then (λ (x : Route). option_and_then (λ position.
    option_map (call_on x w c position)
    (slice_get (fused (w.arrivals c) (length x.readers)) (position - 1)))
    (found_by w c)) (slice_get w.routes c)

-- Fetch: the holder that asked finds a tuple, and the component is called on it; or it finds none.
abbrev pub after_call : (p c : ℕ) → Call → Plain → Plain
after_call p c call w = record w {
  cursors = set_at c (call.position + 1) w.cursors;
  calls = set_at c (w.calls c ++ call ∷ []) w.calls;
  hands = set_at p (hand c Running) w.hands;
}

abbrev pub after_none : (p c : ℕ) → Plain → Plain
after_none p c w = record w { hands = set_at p (hand c Empty) w.hands }

abbrev pub after_fetch : (p c : ℕ) → Option Call → Plain → Plain
after_fetch p c None w = after_none p c w
after_fetch p c (Some call) w = after_call p c call w

pub record Fetches (p c : ℕ) (w v : Plain) : Type 0 where
  pub held : w.hands p ≡ hand c Asked
  pub effect : v ≡ after_fetch p c (next_call w c) w

-- Tape: a message comes onto the tape, and the thread then has to fill the readers of its channel.
abbrev pub after_tape : (p : ℕ) → Token → Plain → Plain
after_tape p t w = record w {
  tape = w.tape ++ t ∷ [];
  fills = set_at p (readers_of w.routes t.channel) w.fills;
  tokens = set_at p t w.tokens;
}

-- A message is the next of a channel that no component writes, within the number of messages that
-- are played there.
pub record IsNext (t : Token) (w : Plain) : Type 0 where
  pub unwritten : writes_from 0 w.routes t.channel ≡ None
  pub next : t.seq ≡ length (on_channel t.channel w.tape) + 1
  pub within : t.seq ≤ slice_index w.counts t.channel

-- .. by the player, at the message's time, once the stop is raised where it was to be raised by
-- now.
pub record Tapes (t : Token) (w v : Plain) : Type 0 where
  pub owes : OwesNothing 0 w
  pub raised : (s : Stop) → w.stop ≡ Some s → played_count w ≡ s.after → w.raised ≡ true
  pub next : IsNext t w
  pub now : t.time ≡ w.clock
  pub effect : v ≡ after_tape 0 t w

-- .. by the holder of a component: its unsent output, after a call that doesn't hold it back, or
-- where it was held back and the component is READY again, for the last time where it is stopped.
abbrev pub after_send : (p c : ℕ) (next : Phase) → Token → Plain → Plain
after_send p c next t w = record (after_tape p t w) { hands = set_at p (hand c next) w.hands }

abbrev pub MaySend : (p c : ℕ) (next : Phase) → Plain → Type 0
MaySend p c next w =
    ((w.hands p ≡ hand c Running) × (held_until (last_of w.routes w.calls c) ≡ None)
    × (next ≡ Running))
    ⊎ ((w.hands p ≡ hand c Checked) × (next ≡ Sending))
    ⊎ ((w.hands p ≡ hand c Stopping) × (next ≡ LastSending))

pub record Sends (p c : ℕ) (next : Phase) (t : Token) (w v : Plain) : Type 0 where
  pub owes : OwesNothing p w
  pub held : MaySend p c next w
  pub unsent : unsent_of w c ≡ Some t
  pub effect : v ≡ after_send p c next t w

-- Fill: the message arrives at the first reader that the thread still has to fill. Where that is
-- the component's first reader, the component joins the thread's news.
abbrev pub after_fill : (p v j : ℕ) (later : List (ℕ × ℕ)) → Plain → Plain
after_fill p v j later w = record w {
  arrivals = set_at v (w.arrivals v ++ (j, w.tokens p) ∷ []) w.arrivals;
  fills = set_at p later w.fills;
  news = set_at p (if j == 0 then w.news p ++ v ∷ [] else w.news p) w.news;
}

pub record Fills (p v j : ℕ) (w u : Plain) : Type 0 where
  pub later : List (ℕ × ℕ)
  pub first : w.fills p ≡ (v, j) ∷ later
  pub effect : u ≡ after_fill p v j later w

-- Look: the thread sees the state of the first of its news. One that waits is to have its flag
-- cleared.
abbrev pub after_look : (p c : ℕ) (later : List ℕ) → Plain → Plain
after_look p c later w = record w {
  news = set_at p later w.news;
  clearing = set_at p
      (if is_waiting (w.states c) then w.clearing p ++ c ∷ [] else w.clearing p) w.clearing;
}

pub record Looks (p c : ℕ) (w v : Plain) : Type 0 where
  pub later : List ℕ
  pub filled : w.fills p ≡ []
  pub first : w.news p ≡ c ∷ later
  pub effect : v ≡ after_look p c later w

-- Clear: the flag of one that is to have it cleared is cleared.
abbrev pub after_clear : (p c : ℕ) (rest : List ℕ) → Plain → Plain
after_clear p c rest w = record w {
  spent = set_at c false w.spent;
  clearing = set_at p rest w.clearing;
}

pub record Clears (p c : ℕ) (w v : Plain) : Type 0 where
  pub before : List ℕ
  pub after : List ℕ
  pub there : w.clearing p ≡ before ++ c ∷ after
  pub effect : v ≡ after_clear p c (before ++ after) w

-- Yield: the holder stores what the croutine is to do next. After a call it is what the outcome
-- names; a held output may wait. One that is stopped ends, once nothing of it is unsent.
abbrev pub state_after : Outcome → State
state_after (Emit out) = Ready
state_after (Hold until out) = Sleep until
state_after (Last out) = Finished

abbrev pub after_yield : (p c : ℕ) → State → Plain → Plain
after_yield p c state w = record w {
  states = set_at c state w.states;
  hands = set_at p (hand c Done) w.hands;
}

abbrev pub MayYield : (p c : ℕ) → State → Plain → Type 0
MayYield p c state w =
    ((w.hands p ≡ hand c Empty) × (state ≡ DataWait))
    ⊎ ((w.hands p ≡ hand c Running)
    × (option_map state_after (last_of w.routes w.calls c) ≡ Some state)
    × (held_until (last_of w.routes w.calls c) ≡ None → unsent_of w c ≡ None))
    ⊎ ((w.hands p ≡ hand c Sending) × (state ≡ Ready) × (unsent_of w c ≡ None))
    ⊎ (((w.hands p ≡ hand c Stopping) ⊎ (w.hands p ≡ hand c LastSending)) × (state ≡ Finished)
    × (unsent_of w c ≡ None))

pub record Yields (p c : ℕ) (state : State) (w v : Plain) : Type 0 where
  pub owes : OwesNothing p w
  pub held : MayYield p c state w
  pub effect : v ≡ after_yield p c state w

-- Release: the holder gives a croutine back, after Yield or without a resume.
abbrev pub after_release : (p : ℕ) → Plain → Plain
after_release p w = record w { hands = set_at p None w.hands }

pub record Releases (p c : ℕ) (w v : Plain) : Type 0 where
  pub held : (w.hands p ≡ hand c Done) ⊎ (w.hands p ≡ hand c Known)
  pub effect : v ≡ after_release p w

-- Tick: the player sets the clock forward.
pub record Ticks (time : ℕ) (w v : Plain) : Type 0 where
  pub later : w.clock ≤ time
  pub effect : v ≡ record w { clock = time }

-- Close: the player says that all was played, and the stop raised.
abbrev pub after_close : Plain → Plain
after_close w = record w { closing = true }

pub record Closes (w v : Plain) : Type 0 where
  pub owes : OwesNothing 0 w
  pub raised : IsRaised w
  pub all : played_count w ≡ to_play w
  pub effect : v ≡ after_close w
