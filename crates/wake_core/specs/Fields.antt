-- What a world keeps of a wiring, and what its visitors, routines and room are then.
use Rattle.std.specs.Prelude.{ℕ, ◌+◌, ◌≡◌, ◌≤◌, ◌<◌}
use Rattle.std.specs.Prelude.{List, length, map, sum, get_or, max, min, Option, Some}
use Rattle.std.specs.Prelude.{slice_get}
use Rattle.cy_fuse.specs.declared.overflow.Overflow.TheVariants.{Newest}
use Rattle.cy_fuse.specs.Visitor.{VisitorView, prepared}
use Rattle.cy_comp.specs.declared.kind.Kind.TheVariants.{Pass}
use Rattle.cy_comp.specs.Kind.{messages_needed}
use Rattle.cy_comp.specs.Routine.{RoutineView, new_routine}
use Rattle.wake_core.specs.declared.entries.TheConstants.{MOST_PLANNED}
use Rattle.wake_core.specs.Run.{Route}
use Rattle.wake_core.specs.Planned.{planned, planned_count, counts_from, first_reader}
use Rattle.wake_core.specs.Plain.{Stop, to_play_from}

-- What is read at a place of a list; past its end, a value that stands for none.
unfoldable pub read : {X Y : Type 0} → (X → Y) → Y → List X → ℕ → Y
read g none xs k = get_or (map g xs) k none

abbrev pub no_visitor : VisitorView
no_visitor = prepared 1 1 Newest 0

abbrev pub no_routine : RoutineView
no_routine = new_routine Pass 0

-- What a world keeps of a wiring: at most 64 components, each with one to four readers of known
-- channels, at least as many as its class reads, and a buffer; and no more entries are planned than
-- a world keeps.
pub record IsFixed (routes : List Route) (counts : List ℕ) : Type 0 where
  pub few : length routes ≤ 64
  pub needed : (c : ℕ) (x : Route) → slice_get routes c ≡ Some x
      → messages_needed x.kind ≤ length x.readers
  pub some_reader : (c : ℕ) (x : Route) → slice_get routes c ≡ Some x → 1 ≤ length x.readers
  pub few_readers : (c : ℕ) (x : Route) → slice_get routes c ≡ Some x → length x.readers ≤ 4
  pub known : (c : ℕ) (x : Route) → slice_get routes c ≡ Some x → (j r : ℕ)
      → slice_get x.readers j ≡ Some r → r < length counts
  pub buffered : (c : ℕ) (x : Route) → slice_get routes c ≡ Some x → 1 ≤ x.queue
  pub limited : planned routes counts ≤ MOST_PLANNED

-- A stop names a component, and is raised within what is played.
pub record IsWithin (routes : List Route) (counts : List ℕ) (stop : Option Stop) : Type 0 where
  pub component : (s : Stop) → stop ≡ Some s → s.component < length routes
  pub after : (s : Stop) → stop ≡ Some s → s.after ≤ to_play_from routes 0 counts

-- The visitors are those of the components: each keeps as many tuples as its component's queue, or
-- as many as can come, where these are fewer, and goes on as the component does where one isn't
-- kept any more.
abbrev pub queue_of : List Route → (counts : List ℕ) → Route → ℕ
queue_of routes counts x = max 1 (min x.queue (planned_count routes counts (first_reader x)))

pub record IsVisited (routes : List Route) (counts : List ℕ) (visitors : ℕ → VisitorView)
    : Type 0 where
  pub queues : (c : ℕ) (x : Route) → slice_get routes c ≡ Some x
      → (visitors c).queue ≡ queue_of routes counts x
  pub roles : (c : ℕ) (x : Route) → slice_get routes c ≡ Some x
      → (visitors c).roles ≡ length x.readers
  pub overflows : (c : ℕ) (x : Route) → slice_get routes c ≡ Some x
      → (visitors c).overflow ≡ x.overflow

-- There is room for all planned entries that are still to come.
pub record IsRoomy (routes : List Route) (counts : List ℕ) (visitors : ℕ → VisitorView)
    (routines : ℕ → RoutineView) (tape : ℕ) : Type 0 where
  pub arrivals : (c : ℕ) (x : Route) → slice_get routes c ≡ Some x
      → sum (map (planned_count routes counts) x.readers)
      ≤ length (visitors c).arrivals + (visitors c).spare
  pub calls : (c : ℕ) (x : Route) → slice_get routes c ≡ Some x
      → planned_count routes counts (first_reader x)
      ≤ length (routines c).calls + (routines c).spare
  pub messages : counts_from routes counts 0 (length counts) ≤ tape
