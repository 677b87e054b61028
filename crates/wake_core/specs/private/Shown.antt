-- What the private fields of a world show, and what holds of them.
use Rattle.std.specs.Prelude.{ℕ, ◌+◌, ◌-◌, ◌*◌, ◌≡◌, ◌≢◌, ◌≤◌, ◌<◌, Bool, true, false}
use Rattle.std.specs.Prelude.{List, [], length, drop, Option, Some}
use Rattle.std.specs.Prelude.{None, option_map, slice_get, vec_capacity}
use Rattle.cy_msg.specs.declared.token.Token.{Token}
use Rattle.cy_fuse.specs.Visitor.{VisitorView}
use Rattle.cy_comp.specs.declared.call.Call.{Call}
use Rattle.cy_comp.specs.Calls.{cursor_after, outs, output}
use Rattle.cy_comp.specs.Routine.{RoutineView, taken}
use Rattle.wake_core.specs.declared.found.Found.{Found}
use Rattle.wake_core.specs.declared.owed.Owed.{Owed}
use Rattle.wake_core.specs.Run.{Route, readers_of}
use Rattle.wake_core.specs.Plain.{Plain, Stop, Hand, Ready, blank, taped_of}
use Rattle.wake_core.specs.Events.{IsFree}
use Rattle.wake_core.specs.Sound.{NotRunning}
use Rattle.wake_core.specs.Fields.{read, no_routine}

-- The calls of a routine, with the one on the tuple that a fetch found, where its component is
-- still to be stepped on it.
abbrev pub shown_calls : RoutineView → Option Found → List Call
shown_calls r None = r.calls
shown_calls r (Some f) = (taken r f.tuple f.position f.tail).calls

abbrev pub calls_at : List RoutineView → List (Option Found) → ℕ → List Call
calls_at routines found c = shown_calls (read (λ r. r) no_routine routines c)
    (read (λ f. f) None found c)

-- The last so many of the readers of a thread's message are still to be filled.
abbrev pub fills_of : List Route → Owed → List (ℕ × ℕ)
fills_of routes o =
    let readers = readers_of routes o.token.channel in drop (length readers - o.fills) readers

-- What the fields show of a run.
abbrev pub plain_at : List Route → (counts : List ℕ) → Option Stop → List VisitorView
    → List RoutineView → List (Option Found) → (spent : List Bool) → List (Option Hand)
    → List Owed → (tape : List Token) → (clock : ℕ) → (closing raised : Bool) → Plain
plain_at routes counts stop visitors routines found spent hands owed tape clock closing raised =
    record {
      routes = routes;
      counts = counts;
      stop = stop;
      states = read (λ r. r.state) Ready routines;
      spent = read (λ b. b) true spent;
      cursors = λ c. cursor_after (calls_at routines found c);
      calls = calls_at routines found;
      arrivals = read (λ v. v.arrivals) [] visitors;
      hands = read (λ h. h) None hands;
      fills = read (fills_of routes) [] owed;
      news = read (λ o. drop o.looked o.news.items) [] owed;
      clearing = read (λ o. o.clearing.items) [] owed;
      tokens = read (λ o. o.token) blank owed;
      tape = tape;
      clock = clock;
      closing = closing;
      raised = raised;
    }

-- At most 64 components, each with at most four readers.
pub record HaveFew (routes : List Route) : Type 0 where
  pub many : length routes ≤ 64
  pub readers : (c : ℕ) (x : Route) → slice_get routes c ≡ Some x → length x.readers ≤ 4

-- The readers of each channel.
pub record IsTable (routes : List Route) (channels : ℕ) (table : List (List (ℕ × ℕ))) : Type 0 where
  pub whole : (channel : ℕ) → channel < channels
      → slice_get table channel ≡ Some (readers_of routes channel)

-- The thread numbers: the player and 64 others.
abbrev pub threads : ℕ
threads = 65

-- There is one of everything for each component and for each thread.
pub record IsSized (size visitors routines found spent sent held hands owed : ℕ) : Type 0 where
  pub visitors_fit : visitors ≡ size
  pub routines_fit : routines ≡ size
  pub found_fit : found ≡ size
  pub spent_fit : spent ≡ size
  pub sent_fit : sent ≡ size
  pub held_fit : held ≡ size
  pub hands_fit : hands ≡ threads
  pub owed_fit : owed ≡ threads

-- The acquire flags say who is held.
pub record IsFlagged (size : ℕ) (held : ℕ → Bool) (hands : ℕ → Option Hand) : Type 0 where
  pub free : (c : ℕ) → c < size → held c ≡ false → IsFree hands c
  pub taken : (c : ℕ) → c < size → held c ≡ true → IsFree hands c → ⊥

-- A component is still to be stepped only while it is held and runs.
pub record IsStepping (hands : ℕ → Option Hand) (found : ℕ → Option Found) : Type 0 where
  pub stepped : (c : ℕ) → NotRunning hands c → found c ≡ None

-- The routines are those of the components, the number of outputs that were sent is kept, and the
-- next one is the one that the routine says waits; none waits while the component is to be stepped,
-- and the output of the call that is then made was not sent yet.
pub record IsWaiting (routes : List Route) (routines : ℕ → RoutineView) (found : ℕ → Option Found)
    (sent : ℕ → ℕ) (tape : List Token) : Type 0 where
  pub kinds : (c : ℕ) (x : Route) → slice_get routes c ≡ Some x → (routines c).kind ≡ x.kind
  pub counted : (c : ℕ) → sent c ≡ taped_of routes tape c
  pub unsent : (c : ℕ) (x : Route) → slice_get routes c ≡ Some x
      → slice_get (outs x.out (routines c).calls) (sent c)
      ≡ option_map (output x.out (sent c + 1)) (routines c).pending
  pub none_waits : (c : ℕ) → found c ≢ None → (routines c).pending ≡ None
  pub few : (c : ℕ) (x : Route) → slice_get routes c ≡ Some x
      → sent c ≤ length (outs x.out (routines c).calls)

-- No thread owes more than the readers of its message, and its lists have room for all of them.
pub record IsOwing (routes : List Route) (o : Owed) : Type 0 where
  pub fills : o.fills ≤ length (readers_of routes o.token.channel)
  pub looked : o.looked ≤ length o.news.items
  pub news : length o.news.items + o.fills ≤ 4 * length routes
  pub clearing : length o.clearing.items + (length o.news.items - o.looked) + o.fills
      ≤ 4 * length routes
  pub news_room : 4 * length routes ≤ vec_capacity o.news
  pub clearing_room : 4 * length routes ≤ vec_capacity o.clearing

pub record AreOwing (routes : List Route) (owed : List Owed) : Type 0 where
  pub each : (p : ℕ) (o : Owed) → slice_get owed p ≡ Some o → IsOwing routes o
