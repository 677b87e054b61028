-- What the serial run does with a world, call by call. Thread 0 does all of it, by events.
use Rattle.std.specs.Prelude.{ℕ, zero, suc, ◌+◌, ◌-◌, ◌*◌, ◌≡◌, ◌≢◌, ◌≤◌, ◌<◌, ◌⊎◌, ◌&&◌, ◌||◌}
use Rattle.std.specs.Prelude.{Bool, true}
use Rattle.std.specs.Prelude.{false, not, List, [], ◌∷◌, ◌++◌, length, Option, Some, slice_get}
use Rattle.std.specs.Prelude.{None, if◌then◌else◌, nat_lt, is_some, take, drop}
use Rattle.std.specs.Option.{option_map_or}
use Rattle.cy_msg.specs.declared.token.Token.{Token}
use Rattle.cy_msg.specs.Tokens.{IsNumbered, IsTimed}
use Rattle.cy_comp.specs.declared.call.Call.{Call}
use Rattle.cy_comp.specs.declared.call.Outcome.{Outcome}
use Rattle.cy_comp.specs.Calls.{held_until}
use Rattle.wake_core.specs.Run.{Route, set_at, arrive, readers_of, played_of}
use Rattle.wake_core.specs.Planned.{planned_count, first_reader, counts_from}
use Rattle.wake_core.specs.Settle.{Settles}
use Rattle.wake_core.specs.Serial.{Raised, heard_by, is_roused, is_runnable, resume, play, next}
use Rattle.wake_core.specs.Serial.{Plays}
use Rattle.wake_core.specs.Plain.{Plain, Stop, hand, State, Ready, DataWait, Sleep, Finished, Phase}
use Rattle.wake_core.specs.Plain.{Known, Checked, Running, stops, lists, lists_reader}
use Rattle.wake_core.specs.Plain.{last_of, unsent_of, found_by, played_count}
use Rattle.wake_core.specs.Events.{OwesNothing, IsDue, Asks, Fetches, Sends, Yields, Releases}
use Rattle.wake_core.specs.Events.{IsNext, next_call, after_send, after_yield, is_waiting}
use Rattle.wake_core.specs.Events.{is_finished}
pub use Rattle.wake_core.specs.Events.{is_ready}
use Rattle.wake_core.specs.WorldCalls.{in_hand, phase_sent}
use Rattle.wake_core.specs.Laws.{IsIdle, Events}
use Rattle.wake_core.specs.Sound.{Sound}
use Rattle.wake_core.specs.Rest.{IsAtRest, run_shown, StaysFixed, StaysMade, IsToPlay, Heeds}
use Rattle.wake_core.specs.Rest.{is_loose}

-- A component's flag after a message came to some readers: where the component waits and the first
-- of its readers is among them the flag is clear, else it is as it was.
abbrev pub flag_after : (readers : List (ℕ × ℕ)) → Plain → (c : ℕ) → Bool
flag_after readers w c = w.spent c && not (is_waiting (w.states c) && lists_reader c 0 readers)

-- The thread's message arrives at each of the readers that it still has to fill; it looks at its
-- news, and clears the flags of those that wait. It owes nothing then.
pub record Delivers (p : ℕ) (w v : Plain) : Type 0 where
  pub events : Events w v
  pub same : v ≡ record w {
    arrivals = v.arrivals;
    fills = v.fills;
    news = v.news;
    clearing = v.clearing;
    spent = v.spent;
  }
  pub arrivals : v.arrivals ≡ arrive (w.fills p) (w.tokens p) w.arrivals
  pub fills : v.fills ≡ set_at p [] w.fills
  pub news : v.news ≡ set_at p [] w.news
  pub clearing : v.clearing ≡ set_at p [] w.clearing
  pub spent : (c : ℕ) → v.spent c ≡ flag_after (w.fills p) w c

-- All but thread 0 are idle.
abbrev pub IsAlone : Plain → Type 0
IsAlone w = (q : ℕ) → q ≢ 0 → IsIdle q w

-- Thread 0 has a croutine in hand, and nobody owes anything.
pub record IsInHand (c : ℕ) (phase : Phase) (w : Plain) : Type 0 where
  pub alone : IsAlone w
  pub held : w.hands 0 ≡ hand c phase
  pub owes : OwesNothing 0 w

-- The output of the croutine in hand may be sent by thread 0, which alone does anything.
pub record MaySendOut (t : Token) (w : Plain) : Type 0 where
  pub alone : IsAlone w
  pub sends : Sends 0 (in_hand 0 w) (phase_sent (w.hands 0)) t w
      (after_send 0 (in_hand 0 w) (phase_sent (w.hands 0)) t w)

-- A message is played: the world is at rest again, and shows that.
pub record PlaysOne (t : Token) (w v : Plain) : Type 0 where
  pub events : Events w v
  pub rest : IsAtRest v
  pub run : run_shown v ≡ play w.routes t (run_shown w)
  pub routes : v.routes ≡ w.routes
  pub counts : v.counts ≡ w.counts
  pub stop : v.stop ≡ w.stop
  pub closing : v.closing ≡ w.closing
  pub raised : v.raised ≡ w.raised
  pub played : played_of v.routes v.tape ≡ played_of w.routes w.tape ++ t ∷ []
  -- The flag of one that waits and was told is clear, and else states, flags and outputs stay.
  pub states : v.states ≡ w.states
  pub unsent : (c : ℕ) → unsent_of v c ≡ unsent_of w c
  pub spent : (c : ℕ) → v.spent c ≡ flag_after (readers_of w.routes t.channel) w c

-- Whether a flag wakes a croutine: it waits, and its flag is clear.
abbrev pub is_woken : State → (was_spent : Bool) → Bool
is_woken state was_spent = is_waiting state && not was_spent

-- A croutine is parked: its flag is spent, and it is neither READY nor due.
pub record IsParked (c : ℕ) (w : Plain) : Type 0 where
  pub spent : w.spent c ≡ true
  pub resting : w.states c ≢ Ready
  pub not_due : IsDue (w.states c) w.clock → ⊥

-- A croutine is acquired and updated: it is READY then, or it is parked with the state that it had.
-- Its flag is spent then, but stays where it was due. One that has ended stays so, and no other
-- ends.
pub record Takes (c : ℕ) (w v : Plain) : Type 0 where
  pub events : Events w v
  pub known : c < length w.routes
  pub same : v ≡ record w { hands = v.hands; states = v.states; spent = v.spent }
  pub hands : v.hands ≡ set_at 0 (hand c Known) w.hands
  pub states : v.states ≡ set_at c (v.states c) w.states
  pub spent : v.spent ≡ set_at c (v.spent c) w.spent
  pub spends : w.spent c ≡ true → v.spent c ≡ true
  pub flag : (IsDue (w.states c) w.clock → ⊥) → v.spent c ≡ true
  pub due : IsDue (w.states c) w.clock → v.spent c ≡ w.spent c
  pub woken : v.states c ≡ Ready → (IsDue (w.states c) w.clock → ⊥)
      → (w.states c ≡ Ready) ⊎ (w.spent c ≡ false)
  pub parked : v.states c ≢ Ready → IsParked c v × (v.states c ≡ w.states c)
  pub wakes : is_woken (w.states c) (w.spent c) ≡ true → v.states c ≡ Ready
  pub ended : is_finished (v.states c) ≡ is_finished (w.states c)

-- A croutine was taken, and is READY.
pub record IsTaken (c : ℕ) (w v : Plain) : Type 0 where
  pub takes : Takes c w v
  pub ready : v.states c ≡ Ready

-- Croutines are taken in turn and given back, since none is READY: each is parked. All other flags
-- stay.
pub record Passes (order : List ℕ) (w v : Plain) : Type 0 where
  pub events : Events w v
  pub effect : v ≡ record w { spent = v.spent }
  pub spends : (c : ℕ) → w.spent c ≡ true → v.spent c ≡ true
  pub parked : (c : ℕ) → lists c order ≡ true → IsParked c v
  pub waited : (c : ℕ) → lists c order ≡ true → is_woken (w.states c) (w.spent c) ≡ false
  pub others : (c : ℕ) → lists c order ≡ false → v.spent c ≡ w.spent c

-- The first of them that is READY is in hand.
pub record Finds (order : List ℕ) (c : ℕ) (w v : Plain) : Type 0 where
  pub before : List ℕ
  pub after : List ℕ
  pub there : order ≡ before ++ c ∷ after
  pub between : Plain
  pub sound : Sound between
  pub passes : Passes before w between
  pub takes : Takes c between v
  pub ready : v.states c ≡ Ready

-- An output of the croutine in hand was sent and delivered: nothing of it is unsent then.
pub record OutputDelivered (c : ℕ) (next : Phase) (t : Token) (w v : Plain) : Type 0 where
  pub events : Events w v
  pub same : v ≡ record w {
    tape = w.tape ++ t ∷ [];
    arrivals = v.arrivals;
    hands = v.hands;
    fills = v.fills;
    news = v.news;
    clearing = v.clearing;
    tokens = v.tokens;
    spent = v.spent;
  }
  pub arrivals : v.arrivals ≡ arrive (readers_of w.routes t.channel) t w.arrivals
  pub spent : (k : ℕ) → v.spent k ≡ flag_after (readers_of w.routes t.channel) w k
  pub in_hand : IsInHand c next v
  pub all : unsent_of v c ≡ None
  pub others : (k : ℕ) → k ≢ c → unsent_of v k ≡ unsent_of w k
  pub played : played_of v.routes v.tape ≡ played_of w.routes w.tape

-- The croutine in hand, which had nothing unsent, was called: it is in phase Running.
pub record IsCalled (c : ℕ) (call : Call) (w v : Plain) : Type 0 where
  pub events : Events w v
  pub same : v ≡ record w {
    cursors = v.cursors;
    calls = set_at c (w.calls c ++ call ∷ []) w.calls;
    states = set_at c DataWait w.states;
    hands = v.hands;
  }
  pub in_hand : IsInHand c Running v
  pub found : next_call w c ≡ Some call
  pub none_held : unsent_of w c ≡ None

-- It asked and fetched, and its component was called on what the fetch found, with this outcome; or
-- the fetch found nothing.
pub record Calls (c : ℕ) (answer : Option Outcome) (w v : Plain) : Type 0 where
  -- The world in which it had asked.
  pub between : Plain
  pub asks : Asks 0 c w between
  pub fetches : Fetches 0 c between v
  -- There is an outcome exactly where something was found, and it is that of the last call then.
  pub found : is_some answer ≡ is_some (next_call between c)
  pub outcome : (o : Outcome) → answer ≡ Some o → last_of v.routes v.calls c ≡ Some o

-- It was called from a world in which it was READY.
pub record IsCalledFrom (c : ℕ) (call : Call) (w v : Plain) : Type 0 where
  pub before : IsInHand c Checked w
  pub sound : Sound w
  pub ready : w.states c ≡ Ready
  pub unstopped : stops w.stop w.raised c ≡ false
  pub called : IsCalled c call w v

-- Its output was sent and delivered where there is one that isn't held back.
pub record SendsOut (c : ℕ) (w v : Plain) : Type 0 where
  pub turn : ((v ≡ w) × (held_until (last_of w.routes w.calls c) ≡ None → unsent_of w c ≡ None))
      ⊎ ((t : Token) × (held_until (last_of w.routes w.calls c) ≡ None)
      × (unsent_of w c ≡ Some t) × OutputDelivered c Running t w v)

-- The croutine in hand may yield in a state; it did, and was given back.
abbrev pub MayGiveBack : State → Plain → Type 0
MayGiveBack state w = Yields 0 (in_hand 0 w) state w (after_yield 0 (in_hand 0 w) state w)

pub record GivesBack (state : State) (w v : Plain) : Type 0 where
  pub between : Plain
  pub yields : Yields 0 (in_hand 0 w) state w between
  pub releases : Releases 0 (in_hand 0 w) between v

-- So much of numbers from each below a bound.
abbrev pub sum_below : ℕ → (ℕ → ℕ) → ℕ
sum_below zero f = 0
sum_below (suc n) f = f n + sum_below n f

-- How many more messages can come onto the tape.
abbrev pub tape_left : Plain → ℕ
tape_left w = counts_from w.routes w.counts 0 (length w.counts) - length w.tape

-- How many more calls a component can have that had these.
abbrev pub calls_left : List Route → List ℕ → (c : ℕ) → List Call → ℕ
calls_left routes counts c calls = option_map_or
    (λ (x : Route). planned_count routes counts (first_reader x) - length calls)
    (slice_get routes c) 0

-- How many more messages and calls there is room for.
abbrev pub left_of : Plain → ℕ
left_of w = tape_left w
    + sum_below (length w.routes) (λ c. calls_left w.routes w.counts c (w.calls c))

-- Whether a croutine is due.
abbrev pub is_due : State → (clock : ℕ) → Bool
is_due Ready clock = false
is_due DataWait clock = false
is_due (Sleep until) clock = nat_lt until clock
is_due Finished clock = false

-- Whether there is a time until which an output is held back.
abbrev pub is_held : Option ℕ → Bool
is_held until = is_some until

abbrev pub loose : State → (was_spent : Bool) → ℕ
loose state was_spent = if is_loose state was_spent then 1 else 0

abbrev pub loose_of : Plain → ℕ
loose_of w = sum_below (length w.routes) (λ c. loose (w.states c) (w.spent c))

-- How many more turns there can be: each leaves less room, or makes one croutine less loose.
abbrev pub turns_left : Plain → ℕ
turns_left w = left_of w * (length w.routes + 1) + loose_of w

-- This is the raised stop that names a croutine, or none does. Where nothing of it is unsent, it is
-- to be resumed for that.
abbrev pub IsNamed : Option Raised → (c : ℕ) → Plain → Type 0
IsNamed None c w = stops w.stop w.raised c ≡ false
IsNamed (Some r) c w = (stops w.stop w.raised c ≡ true)
    × (unsent_of w c ≡ None → is_roused r (w.arrivals c) ≡ true)

-- What a croutine that was taken came to is a step of the serial run.
pub record IsStep (c : ℕ) (w v : Plain) (stop : Option Raised) : Type 0 where
  pub can : is_runnable w.routes stop (run_shown w) c ≡ true
  pub run : run_shown v ≡ resume w.routes stop (run_shown w) c

-- It was given back in a state, and nothing of it is unsent.
pub record Rests (c : ℕ) (state : State) (w v : Plain) : Type 0 where
  pub same : v ≡ record w { states = set_at c state w.states; hands = v.hands }
  pub none_held : unsent_of w c ≡ None

-- It came to a step that leaves less room; or it ended, since it was stopped; or it found nothing,
-- and waits again.
pub record Steps (c : ℕ) (w v : Plain) : Type 0 where
  pub step : (stop : Option Raised) → IsNamed stop c w → IsStep c w v stop
  pub left : left_of v < left_of w

pub record Leaves (c : ℕ) (w v : Plain) : Type 0 where
  pub step : (stop : Option Raised) → IsNamed stop c w → IsStep c w v stop
  pub rests : Rests c Finished w v

-- What a component comes to while another one does something: messages may have come to its first
-- reader, and told it. Where it goes on and holds no output back, it did so before; and it is loose
-- where it was, or heard of a message.
pub record Keeps (k : ℕ) (w v : Plain) : Type 0 where
  pub more : Bool
  pub heard : heard_by (w.arrivals k) ≤ heard_by (v.arrivals k)
  pub hears : more ≡ true → heard_by (w.arrivals k) < heard_by (v.arrivals k)
  pub silent : more ≡ false → heard_by (v.arrivals k) ≡ heard_by (w.arrivals k)
  pub went_on : is_finished (v.states k) ≡ false → is_finished (w.states k) ≡ false
  pub held_none : unsent_of v k ≡ None → unsent_of w k ≡ None
  pub looser : is_finished (v.states k) ≡ false → unsent_of v k ≡ None
      → is_loose (v.states k) (v.spent k) ≡ (is_loose (w.states k) (w.spent k) || more)

pub record Resumes (c : ℕ) (w v : Plain) : Type 0 where
  pub events : Events w v
  pub rest : IsAtRest v
  pub stays : StaysFixed w v
  pub turn : Steps c w v ⊎ Leaves c w v ⊎ Rests c DataWait w v
  -- One that is stopped has ended.
  pub ended : stops w.stop w.raised c ≡ true → v.states c ≡ Finished
  pub hears : (k : ℕ) → heard_by (w.arrivals k) ≤ heard_by (v.arrivals k)
  pub keeps : (k : ℕ) → k ≢ c → Keeps k w v

-- The next turn of a croutine would find nothing: it is READY, nothing of it is unsent, and there
-- is nothing for it to fetch.
abbrev pub finds_nothing : ℕ → Plain → Bool
finds_nothing c w = is_ready (w.states c) && not (is_some (unsent_of w c))
    && not (is_some (found_by w c))

-- The world after such a turn: the croutine waits, and its flag is spent.
abbrev pub parked_world : ℕ → Plain → Plain
parked_world c w = record w {
  states = set_at c DataWait w.states;
  spent = set_at c true w.spent;
}

-- A croutine that is READY isn't stopped.
abbrev pub IsUnstopped : ℕ → Plain → Type 0
IsUnstopped c w = w.states c ≡ Ready → stops w.stop w.raised c ≡ false

-- A croutine has its next turn at once where that would find nothing; else all stays.
pub record Parks (c : ℕ) (w v : Plain) : Type 0 where
  pub events : Events w v
  pub parks : finds_nothing c w ≡ true → v ≡ parked_world c w
  pub stays : finds_nothing c w ≡ false → v ≡ w

-- One turn of a scan: the first croutine that is READY was resumed. Either it is the first that can
-- be resumed in the serial run, and was; or the world shows what it showed before.
abbrev pub IsNextOrSame : Option Raised → (scan : List ℕ) → (w v : Plain) → Type 0
IsNextOrSame stop scan w v = (next w.routes stop scan (run_shown w) ≡ Some (run_shown v))
    ⊎ (run_shown v ≡ run_shown w)

pub record Turns (scan : List ℕ) (w v : Plain) : Type 0 where
  pub events : Events w v
  pub rest : IsAtRest v
  pub stays : StaysFixed w v
  pub shows : (stop : Option Raised) → Heeds stop w → IsNextOrSame stop scan w v × Heeds stop v
  pub fewer : turns_left v < turns_left w

-- Croutines were resumed until none was READY in a whole scan: all are parked.
pub record IsSettled (scan : List ℕ) (w v : Plain) : Type 0 where
  pub events : Events w v
  pub rest : IsAtRest v
  pub stays : StaysFixed w v
  pub settles : (stop : Option Raised) → Heeds stop w
      → Settles (next w.routes stop scan) (run_shown w) (run_shown v) × Heeds stop v
  pub parked : (c : ℕ) → lists c scan ≡ true → IsParked c v

-- How many messages of so many are played before the stop is raised: all, where there is none.
abbrev pub place_of : Option Stop → (count : ℕ) → ℕ
place_of None count = count
place_of (Some s) count = s.after

-- A message is the next, and the stop is raised where it was to be raised by now.
pub record MayPut (t : Token) (w : Plain) : Type 0 where
  pub next : IsNext t w
  pub raised : (s : Stop) → w.stop ≡ Some s → played_count w ≡ s.after → w.raised ≡ true

-- So many messages of a list were played in a world at rest, and the next one is not earlier than
-- its clock.
pub record IsPlayedTo (tokens : List Token) (w : Plain) (n : ℕ) : Type 0 where
  pub rest : IsAtRest w
  pub made : IsToPlay w tokens
  pub played : played_of w.routes w.tape ≡ take n tokens
  pub later : (t : Token) → slice_get tokens n ≡ Some t → w.clock ≤ t.time

-- Those from one place to another may be played: the stop, if there is one, is raised already, or
-- not before the last of them.
pub record MayPlayOn (tokens : List Token) (n m : ℕ) (w : Plain) : Type 0 where
  pub timed : IsTimed tokens
  pub numbered : IsNumbered tokens
  pub played : IsPlayedTo tokens w n
  pub within : m ≤ length tokens
  pub in_time : (s : Stop) → w.stop ≡ Some s → (w.raised ≡ true) ⊎ (m ≤ s.after)

-- They were played, and what each started has settled.
pub record PlaysOn (scan : List ℕ) (tokens : List Token) (n m : ℕ) (w v : Plain) : Type 0 where
  pub events : Events w v
  pub ordered : n ≤ m
  pub none : n ≡ m → v ≡ w
  pub played : IsPlayedTo tokens v m
  pub made : StaysMade w v
  pub raised : v.raised ≡ w.raised
  pub plays : (stop : Option Raised) → Heeds stop w
      → Plays w.routes stop scan (take (m - n) (drop n tokens)) (run_shown w) (run_shown v)
      × Heeds stop v
  pub parked : n < m → (c : ℕ) → lists c scan ≡ true → IsParked c v
