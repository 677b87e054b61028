-- A world taken apart: what its parts show, and when parts make a world.
use Rattle.std.specs.Prelude.{ℕ, ◌≡◌, ◌<◌, true, [], length, None, vec_capacity}
use Rattle.cy_comp.specs.Routine.{RoutineView}
use Rattle.cy_comp.specs.Calls.{cursor_after}
use Rattle.wake_core.specs.declared.parts.Parts.{Parts}
use Rattle.wake_core.specs.declared.world.World.{World}
use Rattle.wake_core.specs.Plain.{Plain, Ready, opening_world, played_count}
use Rattle.wake_core.specs.Sound.{Sound}
use Rattle.wake_core.specs.WorldCalls.{IsRoutineOf}
use Rattle.wake_core.specs.WorldOf.{plain_of, to_step, routes_in, counts_in, stop_in}
use Rattle.wake_core.specs.Fields.{read, no_routine, no_visitor, IsVisited, IsRoomy}

-- The routine of a component among parts.
abbrev pub routine_in : Parts → ℕ → RoutineView
routine_in p = read (λ r. r) no_routine p.routines

-- The plain world that parts show, in which no thread has or owes anything.
unfoldable pub shown_by : Parts → Plain
shown_by p = record (opening_world (routes_in p.fixed) (counts_in p.fixed) (stop_in p.fixed)) {
  states = read (λ r. r.state) Ready p.routines;
  spent = read (λ b. b) true p.spent;
  cursors = λ c. cursor_after (routine_in p c).calls;
  calls = λ c. (routine_in p c).calls;
  arrivals = read (λ v. v.arrivals) [] p.visitors;
  tape = p.tape.items;
  clock = p.clock;
  closing = p.closing;
  raised = p.raised;
}

-- Parts fit together. There is one of each for each component; routines and visitors are those of
-- the components; as many messages were played as the tape has; there is room for all planned
-- entries that are still to come; and of the world that the parts show all holds that holds of a
-- world.
pub record AreFit (p : Parts) : Type 0 where
  pub routines_fit : length p.routines ≡ length (routes_in p.fixed)
  pub visitors_fit : length p.visitors ≡ length (routes_in p.fixed)
  pub spent_fit : length p.spent ≡ length (routes_in p.fixed)
  pub routines : (c : ℕ) → c < length (routes_in p.fixed)
      → IsRoutineOf c (shown_by p) (routine_in p c)
  pub visited : IsVisited (routes_in p.fixed) (counts_in p.fixed)
      (read (λ v. v) no_visitor p.visitors)
  pub played : p.played ≡ played_count (shown_by p)
  pub roomy : IsRoomy (routes_in p.fixed) (counts_in p.fixed)
      (read (λ v. v) no_visitor p.visitors) (routine_in p) (vec_capacity p.tape)
  pub sound : Sound (shown_by p)

-- A world is the one that parts show, and no component is to be stepped in it.
pub record IsTogether (p : Parts) (w : World) : Type 0 where
  pub shown : plain_of w ≡ shown_by p
  pub stepped : (c : ℕ) → to_step w c ≡ None
