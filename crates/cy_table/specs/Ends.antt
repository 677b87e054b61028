-- A table at its start and at its end: what the calls that make it and close it need, and what they
-- leave.
use Rattle.std.specs.Prelude.{ℕ, ◌≡◌, ◌≤◌, ◌<◌, List, [], ◌∷◌, length, slice_index}
use Rattle.std.specs.Prelude.{slice_get, Some}
use mathlib.Core.Option.{some}
use lib.ListN.{get_elem?}
use Rattle.cy_fuse.specs.Visitor.{VisitorView}
use Rattle.cy_comp.specs.Routine.{RoutineView}
use Rattle.wake_core.specs.declared.world.World.{World}
use Rattle.wake_core.specs.declared.entries.TheConstants.{MOST_PLANNED}
use Rattle.wake_core.specs.Run.{played_of}
use Rattle.wake_core.specs.Plain.{Plain}
use Rattle.wake_core.specs.WorldOf.{plain_of}
use Rattle.wake_core.specs.Rest.{IsAtRest}
use Rattle.wake_core.specs.Laws.{Events}
use Rattle.wake_core.specs.Way.{Replaces}
use Rattle.cy_table.specs.declared.part.Part.{Part}
use Rattle.cy_table.specs.declared.part.Part.TheVariants as part
use Rattle.cy_table.specs.declared.pass.Pass.{Pass}
use Rattle.cy_table.specs.declared.table.FlagTable.{FlagTable}
use Rattle.cy_table.specs.Layout.{clock_word, closing_word, tape_door, hold_word, state_word}
use Rattle.cy_table.specs.Layout.{flag_word, visitor_door, tape_slot, routine_slot, visitor_slot}
use Rattle.cy_table.specs.Layout.{words_for, slots_for, state_number, yes_or_no, stop_word}
use Rattle.cy_table.specs.Layout.{stop_number}
use Rattle.cy_table.specs.Seats.{IsEmpty}
use Rattle.cy_table.specs.Shown.{Rooms, routine_at, visitor_at, tape_at}
use Rattle.cy_table.specs.Plays.{HasSeen, seat_for}
use Rattle.cy_table.specs.Rule.{Way, IsMarked}
use Rattle.cy_table.specs.Calls.{made_of, thread_of, seat_of, sight_of, IsPlayer}

-- A table that was made of a world, with the player's pass, which has seen the world's calls. The
-- table's rule says that it shows this world, until events lead to others.
pub record IsNew (w : World) (t : FlagTable) (p : Pass) : Type 0 where
  pub made : made_of t ≡ plain_of w
  pub player : IsPlayer t p
  pub thread : thread_of p ≡ (seat_for w, [])

-- The player's pass is the last one of the table, and has and owes nothing.
pub record IsLast (t : FlagTable) (p : Pass) : Type 0 where
  pub player : IsPlayer t p
  pub alone : (seat_of p).split ≡ 0
  pub empty : IsEmpty (seat_of p)

-- Events led from a world to one in which nobody has or owes anything, and this one replaces its
-- threads.
pub record IsReached (from w : Plain) : Type 0 where
  pub world : Plain
  pub events : Events from world
  pub replaced : Replaces world w

-- A world that a table leaves to the player: one at rest, which events reached from the world that
-- the table was made of, with its components, counts and stop. What the player and the threads that
-- were joined noted was so on one way to it, each note in its order, and the events that their
-- calls made are steps of this way. It has the played messages, the clock and the closing that the
-- player knows, and its stop is raised just where the player knows so; and each component with all
-- calls that the player has seen, those of the passes that were joined among them.
pub record IsLeft (t : FlagTable) (p : Pass) (w : Plain) : Type 0 where
  pub reached : IsReached (made_of t) w
  pub way : Way (made_of t) reached.world
  pub noted : IsMarked way 0 (sight_of p)
  pub routes : w.routes ≡ (made_of t).routes
  pub counts : w.counts ≡ (made_of t).counts
  pub stop : w.stop ≡ (made_of t).stop
  pub rest : IsAtRest w
  pub played : played_of w.routes w.tape ≡ (seat_of p).played
  pub clock : w.clock ≡ (seat_of p).clock
  pub closing : w.closing ≡ (seat_of p).closing
  pub raised : w.raised ≡ (seat_of p).raised
  pub seen : (c : ℕ) → c < length w.routes → HasSeen c (w.calls c) (seat_of p).seen

-- The words of a world in which no croutine is held and each door is open.
pub record AreWords (w : Plain) (words : List ℕ) : Type 0 where
  pub wide : length words ≡ words_for (length w.routes)
  pub clock_is : slice_index words clock_word ≡ w.clock
  pub closing_is : slice_index words closing_word ≡ yes_or_no w.closing
  pub stop_is : slice_index words (stop_word (length w.routes)) ≡ stop_number w.stop w.raised
  pub tape_free : slice_index words tape_door ≡ 0
  pub state : (c : ℕ) → c < length w.routes → slice_index words (state_word c)
      ≡ state_number (w.states c)
  pub flag : (c : ℕ) → c < length w.routes → slice_index words (flag_word c)
      ≡ yes_or_no (w.spent c)
  pub free : (c : ℕ) → c < length w.routes → slice_index words (hold_word c) ≡ 0
  pub visitor_free : (c : ℕ) → c < length w.routes → slice_index words (visitor_door c) ≡ 0

-- The slots of a world in which all is at home.
pub record AreSlots (r : Rooms) (w : Plain) (slots : List Part) : Type 0 where
  pub deep : length slots ≡ slots_for (length w.routes)
  pub tape : get_elem? slots tape_slot ≡ some (part.Tape (tape_at r w))
  pub routine : (c : ℕ) → c < length w.routes
      → get_elem? slots (routine_slot c) ≡ some (part.Routine (routine_at r w c))
  pub visitor : (c : ℕ) → c < length w.routes
      → get_elem? slots (visitor_slot c) ≡ some (part.Visitor (visitor_at r w c))

-- Routines and visitors laid side by side, component by component.
abbrev pub laid : List RoutineView → List VisitorView → List Part
laid [] visitors = []
laid (r ∷ routines) [] = []
laid (r ∷ routines) (v ∷ visitors) = part.Routine r ∷ part.Visitor v ∷ laid routines visitors

-- No routine has more calls than a world keeps.
pub record HaveFewCalls (routines : List RoutineView) : Type 0 where
  pub each : (c : ℕ) (r : RoutineView) → slice_get routines c ≡ Some r
      → length r.calls ≤ MOST_PLANNED
