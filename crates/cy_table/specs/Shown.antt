-- What shows which part of a plain world: words and slots, and what the seats of threads have.
use Rattle.std.specs.Prelude.{ℕ, ◌-◌, ◌≡◌, ◌≢◌, ◌≤◌, ◌<◌, ◌⊎◌, ◌==◌, if◌then◌else◌, List, length}
use Rattle.std.specs.Prelude.{map, sum, slice_index, slice_index_or, slice_get, option_map, Option}
use Rattle.std.specs.Prelude.{Some, None}
use Rattle.std.specs.Option.{option_map_or}
use mathlib.Core.Option.{some}
use mathlib.Core.Option as maybe
use lib.ListN.{get_elem?}
use Rattle.atomic_table.specs.Table.{State as Table}
use Rattle.cy_msg.specs.declared.token.Token.{Token}
use Rattle.cy_fuse.specs.declared.overflow.Overflow.{Overflow}
use Rattle.cy_fuse.specs.declared.overflow.Overflow.TheVariants.{Newest}
use Rattle.cy_fuse.specs.Visitor.{VisitorView}
use Rattle.cy_comp.specs.declared.kind.Kind.{Kind}
use Rattle.cy_comp.specs.declared.kind.Kind.TheVariants.{Pass}
use Rattle.cy_comp.specs.declared.call.Out.{Out}
use Rattle.cy_comp.specs.Routine.{RoutineView}
use Rattle.wake_core.specs.declared.route.Route.{Route}
use Rattle.wake_core.specs.declared.phase.Hand.{Hand}
use Rattle.wake_core.specs.Planned.{planned_count, first_reader, counts_from}
use Rattle.wake_core.specs.Plain.{Plain, hand, unsent_of}
use Rattle.wake_core.specs.Fields.{queue_of}
use Rattle.cy_table.specs.declared.part.Part.{Part}
use Rattle.cy_table.specs.declared.part.Part.TheVariants as part
use Rattle.cy_table.specs.Layout.{clock_word, closing_word, tape_door, hold_word, state_word}
use Rattle.cy_table.specs.Layout.{flag_word, visitor_door, tape_slot, routine_slot, visitor_slot}
use Rattle.cy_table.specs.Layout.{words_for, slots_for, state_number, yes_or_no, stop_word}
use Rattle.cy_table.specs.Layout.{stop_number}
use Rattle.cy_table.specs.Seats.{Seat, Grip, Visit, TapeView, no_seat}

-- The table spread out: each word, slot and seat by its number. A slot out with a seat is `some
-- none`.
abbrev pub Home : Type 0
Home = maybe.Option (maybe.Option Part)

pub record Spread : Type 0 where
  pub word : ℕ → ℕ
  pub home : ℕ → Home
  pub seat : ℕ → Seat

unfoldable pub spread : Table Part Seat → Spread
spread s = record {
  word = λ i. slice_index s.words i;
  home = λ k. get_elem? s.homes k;
  seat = λ j. slice_index_or s.views j no_seat;
}

-- What a slot at home shows.
abbrev pub routine_in : Home → Option RoutineView
routine_in (some (some (part.Routine r))) = Some r
routine_in _ = None

abbrev pub visitor_in : Home → Option VisitorView
visitor_in (some (some (part.Visitor v))) = Some v
visitor_in _ = None

abbrev pub tape_in : Home → Option TapeView
tape_in (some (some (part.Tape t))) = Some t
tape_in _ = None

-- What a seat has of a component; and what it has in hand, as the plain world has it.
abbrev pub routine_of : ℕ → Option Grip → Option RoutineView
routine_of c None = None
routine_of c (Some g) = if g.croutine == c then Some g.routine else None

abbrev pub visitor_of : ℕ → Option Visit → Option VisitorView
visitor_of c None = None
visitor_of c (Some a) = if a.component == c then Some a.visitor else None

abbrev pub hand_of : Option Grip → Option Hand
hand_of None = None
hand_of (Some g) = hand g.croutine g.phase

-- Something lies behind a word. At home: the word is 0, the slot shows it, and no seat has it. Out:
-- the word is 1, and exactly one seat has it.
pub record AtHome {X : Type 0} (home : Option X) (word : ℕ) (has : ℕ → Option X) (x : X)
    : Type 0 where
  pub free : word ≡ 0
  pub shown : home ≡ Some x
  pub nobody : (j : ℕ) → has j ≡ None

pub record OutWith {X : Type 0} (word : ℕ) (has : ℕ → Option X) (x : X) : Type 0 where
  pub seat : ℕ
  pub shut : word ≡ 1
  pub mine : has seat ≡ Some x
  pub alone : (j : ℕ) → j ≢ seat → has j ≡ None

abbrev pub Kept : {X : Type 0} → Option X → (word : ℕ) → (ℕ → Option X) → X → Type 0
Kept home word has x = AtHome home word has x ⊎ OutWith word has x

-- For how much the lists in the slots have room: as much as is planned, and the same all along.
pub record Rooms : Type 0 where
  pub tape : ℕ
  pub calls : ℕ → ℕ
  pub arrivals : ℕ → ℕ

pub record AreRoomy (routes : List Route) (counts : List ℕ) (r : Rooms) : Type 0 where
  pub tape : counts_from routes counts 0 (length counts) ≤ r.tape
  pub calls : (c : ℕ) (x : Route) → slice_get routes c ≡ Some x
      → planned_count routes counts (first_reader x) ≤ r.calls c
  pub arrivals : (c : ℕ) (x : Route) → slice_get routes c ≡ Some x
      → sum (map (planned_count routes counts) x.readers) ≤ r.arrivals c

-- The routine and the visitor of a component, and the tape, as they are in a plain world.
abbrev pub kind_at : List Route → ℕ → Kind
kind_at routes c = option_map_or (λ (x : Route). x.kind) (slice_get routes c) Pass

abbrev pub roles_at : List Route → ℕ → ℕ
roles_at routes c = option_map_or (λ (x : Route). length x.readers) (slice_get routes c) 0

abbrev pub queue_at : List Route → List ℕ → ℕ → ℕ
queue_at routes counts c = option_map_or (queue_of routes counts) (slice_get routes c) 1

abbrev pub overflow_at : List Route → ℕ → Overflow
overflow_at routes c = option_map_or (λ (x : Route). x.overflow) (slice_get routes c) Newest

abbrev pub out_in : Token → Out
out_in t = record { time = t.time; whole = t.whole; origin = t.origin }

abbrev pub pending_at : Plain → ℕ → Option Out
pending_at w c = option_map out_in (unsent_of w c)

abbrev pub routine_at : Rooms → Plain → ℕ → RoutineView
routine_at r w c = record {
  kind = kind_at w.routes c;
  state = w.states c;
  calls = w.calls c;
  pending = pending_at w c;
  spare = r.calls c - length (w.calls c);
}

abbrev pub visitor_at : Rooms → Plain → ℕ → VisitorView
visitor_at r w c = record {
  queue = queue_at w.routes w.counts c;
  roles = roles_at w.routes c;
  overflow = overflow_at w.routes c;
  spare = r.arrivals c - length (w.arrivals c);
  arrivals = w.arrivals c;
}

abbrev pub tape_at : Rooms → Plain → TapeView
tape_at r w = record { messages = w.tape; room = r.tape }

-- The words and the slots of a world in which nobody has anything: no croutine is held, each door
-- is open, and all is at home.
pub record LiesOpen (r : Rooms) (w : Plain) (words : List ℕ) (homes : List (maybe.Option Part))
    : Type 0 where
  pub wide : length words ≡ words_for (length w.routes)
  pub deep : length homes ≡ slots_for (length w.routes)
  pub clock_is : slice_index words clock_word ≡ w.clock
  pub closing_is : slice_index words closing_word ≡ yes_or_no w.closing
  pub stop_is : slice_index words (stop_word (length w.routes)) ≡ stop_number w.stop w.raised
  pub state : (c : ℕ) → c < length w.routes → slice_index words (state_word c)
      ≡ state_number (w.states c)
  pub flag : (c : ℕ) → c < length w.routes → slice_index words (flag_word c)
      ≡ yes_or_no (w.spent c)
  pub tape_free : slice_index words tape_door ≡ 0
  pub free : (c : ℕ) → c < length w.routes → slice_index words (hold_word c) ≡ 0
  pub visitor_free : (c : ℕ) → c < length w.routes → slice_index words (visitor_door c) ≡ 0
  pub tape : get_elem? homes tape_slot ≡ some (some (part.Tape (tape_at r w)))
  pub routine : (c : ℕ) → c < length w.routes
      → get_elem? homes (routine_slot c) ≡ some (some (part.Routine (routine_at r w c)))
  pub visitor : (c : ℕ) → c < length w.routes
      → get_elem? homes (visitor_slot c) ≡ some (some (part.Visitor (visitor_at r w c)))
