-- The plain world: what a run has come to, with flags, states and threads. Each thing that a
-- croutine or a thread has is a function of its number.
use Rattle.std.specs.Prelude.{ℕ, ◌+◌, ◌==◌, ◌&&◌, ◌||◌, Bool, true, false, List, [], ◌∷◌, length}
use Rattle.std.specs.Prelude.{map, filter, if◌then◌else◌, is_some, Option, Some, None}
use Rattle.std.specs.Prelude.{option_and_then, slice_get}
use Rattle.std.specs.Option.{option_map_or}
use Rattle.cy_msg.specs.declared.token.Token.{Token}
pub use Rattle.cy_msg.specs.declared.stop.Stop.{Stop}
use Rattle.cy_msg.specs.Tokens.{on_channel}
use Rattle.cy_fuse.specs.Fusion.{Arrival, fused}
use Rattle.cy_fuse.specs.Fetch.{fetch}
use Rattle.cy_comp.specs.declared.call.Call.{Call}
use Rattle.cy_comp.specs.declared.call.Outcome.{Outcome}
use Rattle.cy_comp.specs.Calls.{last_outcome, outs}
use Rattle.wake_core.specs.Run.{Route, played_of, writes_from}
pub use Rattle.cy_comp.specs.declared.state.State.{State}
pub use Rattle.cy_comp.specs.declared.state.State.TheVariants.{Ready, DataWait, Sleep, Finished}
pub use Rattle.wake_core.specs.declared.phase.Hand.{Hand}
pub use Rattle.wake_core.specs.declared.phase.Phase.{Phase}
pub use Rattle.wake_core.specs.declared.phase.Phase.TheVariants.{Fresh, Woken, Known, Checked}
pub use Rattle.wake_core.specs.declared.phase.Phase.TheVariants.{Stopping, Asked, Empty, Running}
pub use Rattle.wake_core.specs.declared.phase.Phase.TheVariants.{Sending, LastSending, Done}

-- A croutine in hand, in a phase.
abbrev pub hand : ℕ → Phase → Option Hand
hand c phase = Some record { croutine = c; phase = phase }

pub record Plain : Type 0 where
  -- What it was made for: the components, how many messages are played on each channel, and the
  -- stop, if there is one.
  pub routes : List Route
  pub counts : List ℕ
  pub stop : Option Stop
  -- Of each croutine: its state, whether its flag is spent, where its next fetch begins, its calls,
  -- and what arrived.
  pub states : ℕ → State
  pub spent : ℕ → Bool
  pub cursors : ℕ → ℕ
  pub calls : ℕ → List Call
  pub arrivals : ℕ → List Arrival
  -- Of each thread: the croutine in hand; the readers that it still has to fill, as pairs of
  -- component and role; its news, which are those that it filled and has not looked at; those whose
  -- flag it has to clear; and the message that these are for.
  pub hands : ℕ → Option Hand
  pub fills : ℕ → List (ℕ × ℕ)
  pub news : ℕ → List ℕ
  pub clearing : ℕ → List ℕ
  pub tokens : ℕ → Token
  -- Of all: the messages that were sent, the clock, whether the run is closing, and whether the
  -- stop is raised.
  pub tape : List Token
  pub clock : ℕ
  pub closing : Bool
  pub raised : Bool

-- A message that stands for none.
abbrev pub blank : Token
blank = record { channel = 0; seq = 0; time = 0; whole = None; origin = None }

-- Before anything happens: each croutine is free, READY and spent, and nothing arrived, was called,
-- sent or owed.
abbrev pub opening_world : List Route → List ℕ → Option Stop → Plain
opening_world routes counts stop = record {
  routes = routes;
  counts = counts;
  stop = stop;
  states = λ c. Ready;
  spent = λ c. true;
  cursors = λ c. 0;
  calls = λ c. [];
  arrivals = λ c. [];
  hands = λ p. None;
  fills = λ p. [];
  news = λ p. [];
  clearing = λ p. [];
  tokens = λ p. blank;
  tape = [];
  clock = 0;
  closing = false;
  raised = false;
}

-- Whether the raised stop names a component.
abbrev pub stops : Option Stop → (raised : Bool) → (component : ℕ) → Bool
stops None raised c = false
stops (Some s) raised c = raised && s.component == c

-- The channel that a reader of a component reads, where there is such a reader.
abbrev pub reads : List Route → (component role : ℕ) → Option ℕ
reads routes v j = option_and_then (λ (x : Route). slice_get x.readers j) (slice_get routes v)

-- The messages that arrived in a role, in order.
abbrev pub of_role : ℕ → List Arrival → List Token
of_role role arrivals = map (λ a. a.1) (filter (λ a. a.0 == role) arrivals)

-- Whether a number is among these.
abbrev pub lists : ℕ → List ℕ → Bool
lists c [] = false
lists c (x ∷ rest) = x == c || lists c rest

-- Whether a reader is among these.
abbrev pub lists_reader : (component role : ℕ) → List (ℕ × ℕ) → Bool
lists_reader v j [] = false
lists_reader v j (r ∷ rest) = r.0 == v && r.1 == j || lists_reader v j rest

-- The outcome of a component's last call.
abbrev pub last_of : List Route → (ℕ → List Call) → ℕ → Option Outcome
last_of routes calls c =
    option_and_then (λ (x : Route). last_outcome x.kind (calls c)) (slice_get routes c)

-- What a component's calls put out, on its channel.
abbrev pub outs_of : List Route → (ℕ → List Call) → ℕ → List Token
outs_of routes calls c = option_map_or (λ (x : Route). outs x.out (calls c)) (slice_get routes c) []

-- What of it stands on the tape.
abbrev pub sent_of : List Route → List Token → ℕ → List Token
sent_of routes tape c = option_map_or (λ (x : Route). on_channel x.out tape) (slice_get routes c) []

-- How many outputs a component's calls have, and how many of them stand on the tape.
abbrev pub made_of : List Route → (ℕ → List Call) → ℕ → ℕ
made_of routes calls c = length (outs_of routes calls c)

abbrev pub taped_of : List Route → List Token → ℕ → ℕ
taped_of routes tape c = length (sent_of routes tape c)

-- The output of a component that doesn't stand on the tape yet, where there is one.
abbrev pub unsent_of : Plain → ℕ → Option Token
unsent_of w c = slice_get (outs_of w.routes w.calls c) (taped_of w.routes w.tape c)

-- How many tuples were fused at a component.
abbrev pub tail_at : Route → Plain → ℕ → ℕ
tail_at x w c = length (fused (w.arrivals c) (length x.readers))

-- The position that a fetch by a component would find.
abbrev pub found_by : Plain → ℕ → Option ℕ
found_by w c =
    option_and_then (λ (x : Route). fetch (w.cursors c) (tail_at x w c) x.queue x.overflow)
    (slice_get w.routes c)

-- The number of messages that were played.
abbrev pub played_count : Plain → ℕ
played_count w = length (played_of w.routes w.tape)

-- How many messages are to be played on the channels from one on that no component writes.
abbrev pub to_play_from : List Route → ℕ → List ℕ → ℕ
to_play_from routes channel [] = 0
to_play_from routes channel (n ∷ rest) =
    (if is_some (writes_from 0 routes channel) then 0 else n)
    + to_play_from routes (channel + 1) rest

-- The whole number of messages for which a world was made.
abbrev pub to_play : Plain → ℕ
to_play w = to_play_from w.routes 0 w.counts
