-- Worlds at rest: what they show of a run, and what a serial run needs of the world that it begins
-- with.
use Rattle.std.specs.Prelude.{ℕ, ◌≡◌, ◌≤◌, ◌<◌, ◌||◌, not, Bool, true, false, List, length}
use Rattle.std.specs.Prelude.{slice_get, slice_index, Option, Some, None, is_some, []}
use Rattle.cy_msg.specs.declared.token.Token.{Token}
use Rattle.cy_msg.specs.Tokens.{on_channel}
use Rattle.wake_core.specs.Run.{Run, writes_from, played_of}
use Rattle.wake_core.specs.Serial.{Raised, heard_by, is_roused, last_clock}
use Rattle.wake_core.specs.Plain.{Plain, State, blank, lists, opening_world, unsent_of, stops}
use Rattle.wake_core.specs.Plain.{played_count, to_play}
use Rattle.wake_core.specs.Events.{is_finished, is_ready, IsRaised}
use Rattle.wake_core.specs.Fields.{IsWithin}
use Rattle.wake_core.specs.Laws.{IsIdle}

-- Nobody holds a croutine, and nobody owes anything.
abbrev pub IsAtRest : Plain → Type 0
IsAtRest w = (p : ℕ) → IsIdle p w

-- The same world with nobody that holds or owes anything, whatever they did.
abbrev pub at_rest : Plain → Plain
at_rest w = record w {
  hands = λ p. None;
  fills = λ p. [];
  news = λ p. [];
  clearing = λ p. [];
  tokens = λ p. blank;
}

-- What a world shows of its run: no flags, cursors or threads, and of states whether they are
-- FINISHED.
abbrev pub run_shown : Plain → Run
run_shown w = record {
  arrivals = w.arrivals;
  calls = w.calls;
  unsent = λ c. is_some (unsent_of w c);
  ended = λ c. is_finished (w.states c);
  tape = w.tape;
  clock = w.clock;
}

-- A croutine is loose where it is READY or its flag is clear.
abbrev pub is_loose : State → (was_spent : Bool) → Bool
is_loose state was_spent = is_ready state || not was_spent

-- A world heeds a stop that was raised: where the component that it names has not ended and holds
-- no output back, it is READY or its flag is clear exactly where it is to be resumed for the stop.
pub record HeedsStop (r : Raised) (w : Plain) : Type 0 where
  pub given : w.stop ≡ Some r.stop
  pub raised : w.raised ≡ true
  pub heard : r.heard ≤ heard_by (w.arrivals r.stop.component)
  pub roused : is_finished (w.states r.stop.component) ≡ false
      → unsent_of w r.stop.component ≡ None
      → is_loose (w.states r.stop.component) (w.spent r.stop.component)
      ≡ is_roused r (w.arrivals r.stop.component)

-- .. or no stop is raised in it.
abbrev pub Heeds : Option Raised → Plain → Type 0
Heeds None w = (c : ℕ) → stops w.stop w.raised c ≡ false
Heeds (Some r) w = HeedsStop r w

-- A world in which nothing has happened.
abbrev pub IsOpening : Plain → Type 0
IsOpening w = w ≡ opening_world w.routes w.counts w.stop

-- The messages are those that a world was made for: as many of each channel as are to be played
-- there, and each on a channel that no component writes.
pub record IsToPlay (w : Plain) (tokens : List Token) : Type 0 where
  pub counted : (channel : ℕ) → length (on_channel channel tokens) ≡ slice_index w.counts channel
  pub unwritten : (n : ℕ) (t : Token) → slice_get tokens n ≡ Some t
      → writes_from 0 w.routes t.channel ≡ None

-- A scan has each of so many components, and no other number. (A placement has none twice.)
pub record IsScanOf (size : ℕ) (scan : List ℕ) : Type 0 where
  pub each : (c : ℕ) → c < size → lists c scan ≡ true
  pub known : (c : ℕ) → lists c scan ≡ true → c < size

-- A list may be played serially: the world was made for it, and nothing has happened in it. Its
-- stop is raised at the latest behind the last message.
pub record MayPlay (w : Plain) (tokens : List Token) (order : List ℕ) : Type 0 where
  pub opening : IsOpening w
  pub made : IsToPlay w tokens
  pub within : IsWithin w.routes w.counts w.stop
  pub scan : IsScanOf (length w.routes) order

-- What is left to do after all was played may be done serially.
pub record MayFinish (w : Plain) (order : List ℕ) : Type 0 where
  pub rest : IsAtRest w
  pub played : played_count w ≡ to_play w
  pub raised : IsRaised w
  pub clock : w.clock ≡ last_clock
  pub scan : IsScanOf (length w.routes) order

-- What a world was made for, and whether it is closing, stay.
pub record StaysMade (w v : Plain) : Type 0 where
  pub routes : v.routes ≡ w.routes
  pub counts : v.counts ≡ w.counts
  pub stop : v.stop ≡ w.stop
  pub closing : v.closing ≡ w.closing

-- What a world was made for, whether it is closing and the stop raised, its clock, and what was
-- played stay.
pub record StaysFixed (w v : Plain) : Type 0 where
  pub routes : v.routes ≡ w.routes
  pub counts : v.counts ≡ w.counts
  pub stop : v.stop ≡ w.stop
  pub closing : v.closing ≡ w.closing
  pub raised : v.raised ≡ w.raised
  pub clock : v.clock ≡ w.clock
  pub played : played_of v.routes v.tape ≡ played_of w.routes w.tape
