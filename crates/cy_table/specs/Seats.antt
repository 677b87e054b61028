-- What a thread at the table knows: plain data, which each of its steps changes.
use Rattle.std.specs.Prelude.{ℕ, ◌+◌, ◌≡◌, ◌≤◌, ◌<◌, Bool, false, List, [], ◌∷◌, length, take}
use Rattle.std.specs.Prelude.{Option, None}
use Rattle.cy_msg.specs.declared.stop.Stop.{Stop}
use Rattle.cy_msg.specs.declared.token.Token.{Token}
use Rattle.cy_fuse.specs.Visitor.{VisitorView}
use Rattle.cy_comp.specs.declared.call.Call.{Call}
use Rattle.cy_comp.specs.Routine.{RoutineView}
use Rattle.wake_core.specs.declared.route.Route.{Route}
use Rattle.cy_comp.specs.declared.state.State.{State}
use Rattle.wake_core.specs.declared.phase.Phase.{Phase}
use Rattle.wake_core.specs.Plain.{blank}
use Rattle.cy_table.specs.Deeds.{Did}

-- A croutine in hand, with its phase and its routine as it is after the thread's events: a call
-- counts from its fetch on, though the component is stepped later.
pub record Grip : Type 0 where
  pub croutine : ℕ
  pub phase : Phase
  pub routine : RoutineView

-- A component's visitor, while the thread is behind its door.
pub record Visit : Type 0 where
  pub component : ℕ
  pub visitor : VisitorView

-- The tape: its messages, and for how many there is room in all.
pub record TapeView : Type 0 where
  pub messages : List Token
  pub room : ℕ

-- The calls of a component, as the thread had them in hand.
pub record Seen : Type 0 where
  pub component : ℕ
  pub calls : List Call

-- What a thread found, in order: a croutine held, or in a state after its update; the visitor of a
-- component at a fetch; the clock; and whether the run is closing. The player notes what it sets in
-- the same way.
pub data Entry : Type 0 where
  Busy : ℕ → Entry
  Found : ℕ → State → Entry
  Saw : ℕ → VisitorView → Entry
  Clock : ℕ → Entry
  Closing : Bool → Entry

pub record Seat : Type 0 where
  -- What the table is for: the components, how many messages are played on each channel, and the
  -- stop, if there is one.
  pub routes : List Route
  pub counts : List ℕ
  pub stop : Option Stop
  -- What is in hand.
  pub hand : Option Grip
  pub visit : Option Visit
  pub tape : Option TapeView
  -- What is owed: readers to fill, news to look at, flags to clear; and the message of these.
  pub fills : List (ℕ × ℕ)
  pub news : List ℕ
  pub clearing : List ℕ
  pub token : Token
  -- The player's: the played messages that stand on the tape.
  pub played : List Token
  -- The calls that were in hand, the newest first; the clock that was set or seen last; and whether
  -- the run was set or found closing.
  pub seen : List Seen
  pub clock : ℕ
  pub closing : Bool
  -- The player's: whether the stop is raised.
  pub raised : Bool
  -- For contracts alone.
  pub note : List Entry
  -- How many seats were split off this one and not joined yet; and 1 where this seat itself was
  -- not joined, else 0.
  pub split : ℕ
  pub live : ℕ

-- What a thread noted and did, as it is handed on when the thread is joined: the entries in order,
-- the number of the step that noted each, and the deeds in order.
pub record Noted : Type 0 where
  pub entries : List Entry
  pub marks : List ℕ
  pub deeds : List Did

-- What a thread knows, with numbers of steps. Each step of any thread has the next number, from 1
-- on. No thread can read such a number: they are for contracts alone.
pub record Sight : Type 0 where
  pub seat : Seat
  -- The number of the thread's last step, and those of the steps that noted the entries.
  pub last : ℕ
  pub marks : List ℕ
  -- What the thread did, in order. A step that is no event is no deed.
  pub deeds : List Did
  -- What the threads noted and did that were joined into this one.
  pub handed : List Noted

-- A seat that has nothing and owes nothing.
abbrev pub idle_seat : List Route → (counts : List ℕ) → Option Stop → List Seen → (live : ℕ) → Seat
idle_seat routes counts stop seen live = record {
  routes = routes;
  counts = counts;
  stop = stop;
  hand = None;
  visit = None;
  tape = None;
  fills = [];
  news = [];
  clearing = [];
  token = blank;
  played = [];
  seen = seen;
  clock = 0;
  closing = false;
  raised = false;
  note = [];
  split = 0;
  live = live;
}

-- No seat: that of a thread which was joined, or never came.
abbrev pub no_seat : Seat
no_seat = idle_seat [] [] None [] 0

-- Calls that were seen begin those that the component has now.
abbrev pub AreSeen : (ℕ → List Call) → List Seen → Type 0
AreSeen calls [] = Unit {0}
AreSeen calls (x ∷ rest) =
    (take (length x.calls) (calls x.component) ≡ x.calls) × AreSeen calls rest

-- Numbers rise: the first is above `low`, each other above the one before it, and none is above
-- `high`.
abbrev pub Rise : (low high : ℕ) → List ℕ → Type 0
Rise low high [] = low ≤ high
Rise low high (k ∷ rest) = (low < k) × Rise k high rest

-- A seat has nothing and owes nothing.
pub record IsEmpty (v : Seat) : Type 0 where
  pub hand : v.hand ≡ None
  pub visit : v.visit ≡ None
  pub tape : v.tape ≡ None
  pub fills : v.fills ≡ []
  pub news : v.news ≡ []
  pub clearing : v.clearing ≡ []

abbrev pub total_live : List Seat → ℕ
total_live [] = 0
total_live (v ∷ rest) = v.live + total_live rest
