-- What a world begins with.
use Rattle.std.specs.Prelude.{ℕ, ◌≡◌, ◌≤◌, List, [], length, map, sum, slice_get, Some}
use Rattle.std.specs.Prelude.{vec_capacity, Bool, false, Option, None, replicate}
use Rattle.cy_fuse.specs.Visitor.{VisitorView, prepared}
use Rattle.cy_comp.specs.Routine.{RoutineView, new_routine}
use Rattle.wake_core.specs.declared.found.Found.{Found}
use Rattle.wake_core.specs.declared.owed.Owed.{Owed}
use Rattle.wake_core.specs.declared.phase.Hand.{Hand}
use Rattle.wake_core.specs.Run.{Route}
use Rattle.wake_core.specs.Planned.{planned_count, first_reader}
use Rattle.wake_core.specs.Plain.{blank}
use Rattle.wake_core.specs.Fields.{queue_of}

-- The visitor of a component, with room for all that can arrive.
abbrev pub first_visitor : List Route → (counts : List ℕ) → Route → VisitorView
first_visitor routes counts x = prepared (queue_of routes counts x) (length x.readers) x.overflow
    (sum (map (planned_count routes counts) x.readers))

-- The routine of a component, with room for all calls.
abbrev pub first_routine : List Route → (counts : List ℕ) → Route → RoutineView
first_routine routes counts x = new_routine x.kind (planned_count routes counts (first_reader x))

-- A thread owes nothing, with room for so many components in each list.
pub record IsNothing (room : ℕ) (o : Owed) : Type 0 where
  pub token : o.token ≡ blank
  pub fills : o.fills ≡ 0
  pub news : o.news.items ≡ []
  pub looked : o.looked ≡ 0
  pub clearing : o.clearing.items ≡ []
  pub news_room : room ≤ vec_capacity o.news
  pub clearing_room : room ≤ vec_capacity o.clearing

-- So many threads, none of which owes anything.
pub record AreNothing (room count : ℕ) (owed : List Owed) : Type 0 where
  pub many : length owed ≡ count
  pub each : (p : ℕ) (o : Owed) → slice_get owed p ≡ Some o → IsNothing room o

-- So many components, of which nobody holds one, and threads that owe nothing.
pub record AreUnheld (size room : ℕ) (f : List (Option Found)) (h : List Bool)
    (hs : List (Option Hand)) (o : List Owed) : Type 0 where
  pub found : f ≡ replicate size None
  pub held : h ≡ replicate size false
  pub hands : hs ≡ replicate 65 None
  pub owed : AreNothing room 65 o
