-- How the numbers of steps change that a thread has for contracts.
use Rattle.std.specs.Prelude.{ℕ, ◌≡◌, ◌<◌, List, [], ◌∷◌, ◌++◌, length, max}
use Rattle.atomic_table.specs.Table.{Me, Step}
use Rattle.cy_table.specs.declared.part.Part.{Part}
use Rattle.wake_core.specs.declared.world.World.{World}
use Rattle.cy_table.specs.Deeds.{Deed, Did, numbers_of, deeds_of}
use Rattle.cy_table.specs.Seats.{Seat, Entry, Noted, Sight, Rise, no_seat}
use Rattle.cy_table.specs.Steps.{splitting, split_off, joining}
use Rattle.cy_table.specs.Plays.{Thread, seat_for}

-- What a thread noted and did from one sight to a later one: each entry by a step behind its last
-- one at the first sight, one entry behind the other, and none behind its last step at the later
-- sight; and just these deeds, in this order, by such steps too. What was handed on to it stays.
pub record Notes (deeds : List Deed) (v u : Sight) : Type 0 where
  pub entries : List Entry
  pub marks : List ℕ
  pub each : length marks ≡ length entries
  pub note : u.seat.note ≡ v.seat.note ++ entries
  pub marked : u.marks ≡ v.marks ++ marks
  pub rising : Rise v.last u.last marks
  pub done : List Did
  pub did : u.deeds ≡ v.deeds ++ done
  pub which : deeds_of done ≡ deeds
  pub ordered : Rise v.last u.last (numbers_of done)
  pub handed : u.handed ≡ v.handed

-- .. as one thing, which proofs open where they need it.
unfoldable pub Since : (deeds : List Deed) → (v u : Sight) → Type 0
Since deeds v u = Notes deeds v u

-- A thread without the numbers of steps.
abbrev pub thread_in : Me Part Sight → Thread
thread_in m = (m.0.seat, m.1)

-- What a step tells its thread, with the numbers of steps and the deed that the step is. Its own
-- number is above that of the thread's last step before it.
abbrev pub counted : (Step Part → Thread → ℕ → Thread → Type 0)
    → (Step Part → Thread → ℕ → Thread → List Deed) → Step Part → Me Part Sight → ℕ
    → Me Part Sight → Type 0
counted tells does step m found n =
    tells step (thread_in m) found (thread_in n)
    × Since (does step (thread_in m) found (thread_in n)) m.0 n.0
    × (m.0.last < n.0.last)

-- A seat with no step and no entry yet.
abbrev pub first_sight : Seat → Sight
first_sight v = record { seat = v; last = 0; marks = []; deeds = []; handed = [] }

abbrev pub sight_for : World → Sight
sight_for w = first_sight (seat_for w)

abbrev pub no_sight : Sight
no_sight = first_sight no_seat

-- A thread is split off the player's, behind the player's last step; and one is joined, whose notes
-- and deeds are handed on with their numbers. What the player notes then is behind the last step of
-- both.
abbrev pub staying : Sight → Sight
staying v = record v { seat = splitting v.seat }

abbrev pub leaving : Sight → Sight
leaving v = record (first_sight (split_off v.seat)) { last = v.last }

abbrev pub uniting : Sight → Sight → Sight
uniting v o = record v {
  seat = joining v.seat o.seat;
  last = max v.last o.last;
  handed = record {
    entries = o.seat.note;
    marks = o.marks;
    deeds = o.deeds;
  } ∷ o.handed ++ v.handed;
}
