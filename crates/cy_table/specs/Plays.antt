-- The rule for a world that a table is made of, and what each step tells the thread that makes it:
-- its seat, and the slots that it took, after the step; and which deed the step is.
use Rattle.std.specs.Prelude.{ℕ, ◌+◌, ◌≡◌, ◌≢◌, ◌≤◌, ◌<◌, ◌⊎◌, ◌==◌, true, List, [], ◌∷◌}
use Rattle.std.specs.Prelude.{length, take, Option, Some, None}
use Rattle.atomic_table.specs.Table.{State as Table, Me, Step, rest}
use Rattle.cy_msg.specs.declared.token.Token.{Token}
use Rattle.cy_msg.specs.declared.token.Tuple.{Tuple}
use Rattle.cy_fuse.specs.declared.overflow.Overflow.TheVariants.{Newest}
use Rattle.cy_fuse.specs.Visitor.{VisitorView, prepared, visited as found_at}
use Rattle.cy_comp.specs.declared.kind.Kind.TheVariants.{Pass}
use Rattle.cy_comp.specs.declared.call.Call.{Call}
use Rattle.cy_comp.specs.declared.call.Out.{Out}
use Rattle.cy_comp.specs.Calls.{cursor_after}
use Rattle.cy_comp.specs.Routine.{RoutineView, new_routine, MayTake}
use Rattle.wake_core.specs.declared.entries.TheConstants.{MOST_PLANNED}
use Rattle.wake_core.specs.declared.phase.Phase.TheVariants.{Done}
use Rattle.wake_core.specs.declared.world.World.{World}
use Rattle.wake_core.specs.Plain.{Plain, blank}
use Rattle.wake_core.specs.WorldOf.{plain_of}
use Rattle.cy_table.specs.declared.part.Part.{Part}
use Rattle.cy_table.specs.declared.part.Part.TheVariants as part
use Rattle.cy_table.specs.Layout.{hold_word, routine_slot, visitor_door, visitor_slot}
use Rattle.cy_table.specs.Layout.{tape_slot}
use Rattle.cy_table.specs.Deeds.{Deed}
use Rattle.cy_table.specs.Seats.{Seat, Sight, Seen, Grip, Visit, TapeView}
use Rattle.cy_table.specs.Deeds as deed
use Rattle.cy_table.specs.Shown.{roles_at, queue_at, overflow_at}
use Rattle.cy_table.specs.Rule.{Ruled}
use Rattle.cy_table.specs.Steps.{acquiring, failing, releasing, asking, yielding, first_seat}
use Rattle.cy_table.specs.Steps.{visiting, filling, called, fetching, entering, MayTape, taping}
use Rattle.cy_table.specs.Steps.{sending, readying, spending, seeing}
use Rattle.cy_table.specs.Steps.{ticking, heeding, closing_all, looking, clearing_but, checking}
use Rattle.cy_table.specs.Steps.{raising, next_state, phase_sent}

-- The calls of the first components of a world, the last component first.
abbrev pub calls_from : Plain → ℕ → List Seen
calls_from w Rattle.std.specs.Prelude.zero = []
calls_from w (Rattle.std.specs.Prelude.suc c) =
    record { component = c; calls = w.calls c } ∷ calls_from w c

abbrev pub rule_for : World → Table Part Sight → Type 0
rule_for w = Ruled (plain_of w)

abbrev pub seat_for : World → Seat
seat_for w = first_seat (plain_of w) (calls_from (plain_of w) (length (plain_of w).routes))

-- A thread: what it knows, and the slots that it took, the last first.
abbrev pub Thread : Type 0
Thread = Me Part Seat

-- The croutine in hand, where there is one.
abbrev pub grip_or_none : Option Grip → Grip
grip_or_none None = record { croutine = 0; phase = Done; routine = new_routine Pass 0 }
grip_or_none (Some g) = g

abbrev pub in_hand : Seat → Grip
in_hand v = grip_or_none v.hand

-- Each list of calls of a component that was seen begins these calls.
abbrev pub HasSeen : (component : ℕ) → (calls : List Call) → List Seen → Type 0
HasSeen c calls [] = Unit {0}
HasSeen c calls (x ∷ rest) =
    (x.component ≡ c → take (length x.calls) calls ≡ x.calls) × HasSeen c calls rest

-- The swap of a hold word: the routine that was at home is in hand, with all calls that were seen,
-- and no more than a world keeps; or the croutine was held.
pub record AcquireTells (c : ℕ) (m : Thread) (found : ℕ) (n : Thread) : Type 0 where
  pub free : found ≡ 0 → (x : RoutineView)
      × (n ≡ (acquiring m.0 c x, (routine_slot c, part.Routine x) ∷ m.1))
      × HasSeen c x.calls m.0.seen
      × (length x.calls ≤ MOST_PLANNED)
  pub held : found ≢ 0 → n ≡ (failing m.0 c, m.1)

abbrev pub acquired : Step Part → Thread → ℕ → Thread → Type 0
acquired step m found n = (c : ℕ) → step.word ≡ hold_word c → AcquireTells c m found n

-- The store of a hold word, and those of a state.
abbrev pub released : Step Part → Thread → ℕ → Thread → Type 0
released step m found n = n ≡ (releasing m.0, rest m.1)

abbrev pub asked : Step Part → Thread → ℕ → Thread → Type 0
asked step m found n = n ≡ (asking m.0 (in_hand m.0), m.1)

abbrev pub yielded : Step Part → Thread → ℕ → Thread → Type 0
yielded step m found n = n ≡ (yielding m.0 (in_hand m.0), m.1)

-- The load and the stores of the clock and of the word that says whether the run is closing.
pub record SeeTells (m : Thread) (found : ℕ) (n : Thread) : Type 0 where
  pub thread : n ≡ (seeing m.0 found, m.1)
  pub past : m.0.clock ≤ found

abbrev pub saw : Step Part → Thread → ℕ → Thread → Type 0
saw step m found n = SeeTells m found n

abbrev pub ticked : Step Part → Thread → ℕ → Thread → Type 0
ticked step m found n = n ≡ (ticking m.0 found, m.1)

pub record HeedTells (m : Thread) (found : ℕ) (n : Thread) : Type 0 where
  pub thread : n ≡ (heeding m.0 (found == 1), m.1)
  pub stays : m.0.closing ≡ true → (found == 1) ≡ true

abbrev pub heeded : Step Part → Thread → ℕ → Thread → Type 0
heeded step m found n = HeedTells m found n

abbrev pub closed : Step Part → Thread → ℕ → Thread → Type 0
closed step m found n = n ≡ (closing_all m.0, m.1)

-- The load and the store of the stop word.
abbrev pub checked : Step Part → Thread → ℕ → Thread → Type 0
checked step m found n =
    n ≡ (checking m.0 (in_hand m.0) (found == (in_hand m.0).croutine + 1), m.1)

abbrev pub stopped : Step Part → Thread → ℕ → Thread → Type 0
stopped step m found n = n ≡ (raising m.0, m.1)

-- The load of the state of the first of the news, and the store of the last flag that is to be
-- cleared.
abbrev pub but_first : List ℕ → List ℕ
but_first [] = []
but_first (c ∷ rest) = rest

abbrev pub but_last : List ℕ → List ℕ
but_last [] = []
but_last (c ∷ []) = []
but_last (c ∷ d ∷ rest) = c ∷ but_last (d ∷ rest)

abbrev pub looked : Step Part → Thread → ℕ → Thread → Type 0
looked step m found n = (c : ℕ) → m.0.news ≡ c ∷ but_first m.0.news
    → n ≡ (looking m.0 c (but_first m.0.news) (found == 1), m.1)

abbrev pub cleared : Step Part → Thread → ℕ → Thread → Type 0
cleared step m found n = n ≡ (clearing_but m.0 (but_last m.0.clearing), m.1)

-- The store of READY, and the swap of a flag.
abbrev pub readied : Step Part → Thread → ℕ → Thread → Type 0
readied step m found n = n ≡ (readying m.0 (in_hand m.0), m.1)

abbrev pub spent : Step Part → Thread → ℕ → Thread → Type 0
spent step m found n = n ≡ (spending m.0 (in_hand m.0) (found == 1), m.1)

-- The swap of a visitor's door: the visitor is in hand, which keeps as many tuples and has as many
-- readers as its component needs, goes on as that does where a tuple isn't kept any more, and has
-- room where it is to be filled; or another thread is behind the door.
pub record VisitTells (c : ℕ) (m : Thread) (found : ℕ) (n : Thread) : Type 0 where
  pub open_door : found ≡ 0 → (x : VisitorView)
      × (n ≡ (visiting m.0 c x, (visitor_slot c, part.Visitor x) ∷ m.1))
      × (x.queue ≡ queue_at m.0.routes m.0.counts c)
      × (x.roles ≡ roles_at m.0.routes c)
      × (x.overflow ≡ overflow_at m.0.routes c)
      × ((j : ℕ) (later : List (ℕ × ℕ)) → m.0.fills ≡ (c, j) ∷ later → 1 ≤ x.spare)
  pub shut_door : found ≢ 0 → n ≡ m

abbrev pub visited : Step Part → Thread → ℕ → Thread → Type 0
visited step m found n = (c : ℕ) → step.word ≡ visitor_door c → VisitTells c m found n

-- The store of a visitor's door after a fill, of the first of the readers.
abbrev pub first_fill : List (ℕ × ℕ) → ℕ × ℕ
first_fill [] = (0, 0)
first_fill (x ∷ rest) = x

abbrev pub later_fills : List (ℕ × ℕ) → List (ℕ × ℕ)
later_fills [] = []
later_fills (x ∷ rest) = rest

abbrev pub filled : Step Part → Thread → ℕ → Thread → Type 0
filled step m found n = n ≡ (
  filling m.0 (first_fill m.0.fills).0 (first_fill m.0.fills).1 (later_fills m.0.fills),
  rest m.1,
)

-- What a fetch by the croutine in hand finds at the visitor behind whose door the thread is.
abbrev pub visit_or_none : Option Visit → Visit
visit_or_none None = record { component = 0; visitor = prepared 1 1 Newest 0 }
visit_or_none (Some a) = a

abbrev pub visitor_of : Seat → VisitorView
visitor_of v = (visit_or_none v.visit).visitor

abbrev pub finding : Seat → Option (Tuple × ℕ × ℕ)
finding v = found_at (cursor_after (in_hand v).routine.calls) (visitor_of v)

-- The store of a visitor's door after a fetch: a tuple that was found may be taken, and the calls
-- are no more than a world keeps.
pub record FetchTells (m n : Thread) : Type 0 where
  pub thread : n ≡ (fetching m.0 (in_hand m.0) (visitor_of m.0) (finding m.0), rest m.1)
  pub fits : (f : Tuple × ℕ × ℕ) → finding m.0 ≡ Some f → MayTake (in_hand m.0).routine f.0 f.1
  pub few : length (called (in_hand m.0) (finding m.0)).routine.calls ≤ MOST_PLANNED

abbrev pub fetched : Step Part → Thread → ℕ → Thread → Type 0
fetched step m found n = FetchTells m n

-- Who comes to the tape: the player, for a message that is the next one of its channel; or the
-- holder of a component whose output waits.
abbrev pub MayPut : (id : ℕ) → Seat → Type 0
MayPut id v =
    ((t : Token) × (id ≡ 0) × MayTape v t)
    ⊎ ((o : Out) × (v.hand ≡ Some (in_hand v)) × ((in_hand v).routine.pending ≡ Some o))

-- The swap of the tape's door: the tape is in hand, with room for a message; or another thread is
-- behind the door.
pub record EnterTells (m : Thread) (found : ℕ) (n : Thread) : Type 0 where
  pub open_door : found ≡ 0 → (x : TapeView)
      × (n ≡ (entering m.0 x, (tape_slot, part.Tape x) ∷ m.1))
      × (length x.messages < x.room)
  pub shut_door : found ≢ 0 → n ≡ m

abbrev pub entered : Step Part → Thread → ℕ → Thread → Type 0
entered step m found n = EnterTells m found n

-- The stores of the tape's door, of the last message in the slot: by the player ..
abbrev pub last_token : List Token → Token
last_token [] = blank
last_token (t ∷ []) = t
last_token (t ∷ u ∷ rest) = last_token (u ∷ rest)

abbrev pub last_in : Part → Token
last_in part.Away = blank
last_in (part.Routine x) = blank
last_in (part.Visitor x) = blank
last_in (part.Tape x) = last_token x.messages

abbrev pub last_put : List (ℕ × Part) → Token
last_put [] = blank
last_put (x ∷ rest) = last_in x.1

abbrev pub taped : Step Part → Thread → ℕ → Thread → Type 0
taped step m found n = n ≡ (taping m.0 (last_put m.1), rest m.1)

-- .. and by the holder of a component.
abbrev pub sent : Step Part → Thread → ℕ → Thread → Type 0
sent step m found n = n ≡ (sending m.0 (in_hand m.0) (last_put m.1), rest m.1)

-- Which deed a step is, by the thread before it and after it, and by the word that it found. The
-- loads of the clock and of the closing word, and the swaps of doors, are none.
abbrev pub no_deed : Step Part → Thread → ℕ → Thread → List Deed
no_deed step m found n = []

-- A swap of a hold word: that of the croutine which is in hand then, where one is.
abbrev pub taking : Option Grip → List Deed
taking None = []
taking (Some g) = deed.Acquire g.croutine ∷ []

abbrev pub acquire_deed : Step Part → Thread → ℕ → Thread → List Deed
acquire_deed step m found n = taking n.0.hand

-- Of the croutine in hand ..
abbrev pub release_deed : Step Part → Thread → ℕ → Thread → List Deed
release_deed step m found n = deed.Release (in_hand m.0).croutine ∷ []

abbrev pub ask_deed : Step Part → Thread → ℕ → Thread → List Deed
ask_deed step m found n = deed.Ask (in_hand m.0).croutine ∷ []

abbrev pub yield_deed : Step Part → Thread → ℕ → Thread → List Deed
yield_deed step m found n =
    deed.Yield (in_hand m.0).croutine (next_state (in_hand m.0)) ∷ []

abbrev pub check_deed : Step Part → Thread → ℕ → Thread → List Deed
check_deed step m found n = deed.Check (in_hand m.0).croutine ∷ []

abbrev pub ready_deed : Step Part → Thread → ℕ → Thread → List Deed
ready_deed step m found n = deed.Ready (in_hand m.0).croutine ∷ []

abbrev pub spend_deed : Step Part → Thread → ℕ → Thread → List Deed
spend_deed step m found n = deed.Spend (in_hand m.0).croutine m.0.clock ∷ []

abbrev pub fetch_deed : Step Part → Thread → ℕ → Thread → List Deed
fetch_deed step m found n = deed.Fetch (in_hand m.0).croutine ∷ []

abbrev pub send_deed : Step Part → Thread → ℕ → Thread → List Deed
send_deed step m found n =
    deed.Send (in_hand m.0).croutine (phase_sent (in_hand m.0).phase) (last_put m.1) ∷ []

-- .. of what the thread owes ..
abbrev pub fill_deed : Step Part → Thread → ℕ → Thread → List Deed
fill_deed step m found n = deed.Fill (first_fill m.0.fills).0 (first_fill m.0.fills).1 ∷ []

abbrev pub first_number : List ℕ → ℕ
first_number [] = 0
first_number (c ∷ rest) = c

abbrev pub last_number : List ℕ → ℕ
last_number [] = 0
last_number (c ∷ []) = c
last_number (c ∷ d ∷ rest) = last_number (d ∷ rest)

abbrev pub look_deed : Step Part → Thread → ℕ → Thread → List Deed
look_deed step m found n = deed.Look (first_number m.0.news) ∷ []

abbrev pub clear_deed : Step Part → Thread → ℕ → Thread → List Deed
clear_deed step m found n = deed.Clear (last_number m.0.clearing) ∷ []

-- .. and of the player.
abbrev pub tape_deed : Step Part → Thread → ℕ → Thread → List Deed
tape_deed step m found n = deed.Tape (last_put m.1) ∷ []

abbrev pub tick_deed : Step Part → Thread → ℕ → Thread → List Deed
tick_deed step m found n = deed.Tick n.0.clock ∷ []

abbrev pub close_deed : Step Part → Thread → ℕ → Thread → List Deed
close_deed step m found n = deed.Close ∷ []

abbrev pub stop_deed : Step Part → Thread → ℕ → Thread → List Deed
stop_deed step m found n = deed.Stop ∷ []
