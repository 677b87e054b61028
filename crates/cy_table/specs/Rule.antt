-- The rule of the table: between any two steps, the words, the values at home in the slots and the
-- seats of all threads show one plain world. A way leads to it from the world that the table was
-- made of, by at most one event a step. What a thread noted was so behind the step that noted it,
-- and each event that a thread made is the event of the step of its number.
use Rattle.std.specs.Prelude.{ℕ, ◌+◌, ◌≡◌, ◌≢◌, ◌≤◌, ◌<◌, ◌⊎◌, Bool, true, List, [], ◌∷◌}
use Rattle.std.specs.Prelude.{length, map, Option}
use mathlib.Core.Option.{some}
use lib.ListN.{get_elem?}
use Rattle.atomic_table.specs.Table.{State as Table}
use Rattle.cy_msg.specs.declared.token.Token.{Token}
use Rattle.cy_fuse.specs.Visitor.{VisitorView}
use Rattle.cy_comp.specs.declared.state.State.{State}
use Rattle.cy_comp.specs.Routine.{RoutineView}
use Rattle.wake_core.specs.declared.phase.Hand.{Hand}
use Rattle.wake_core.specs.declared.phase.Phase.{Phase}
use Rattle.wake_core.specs.Run.{played_of}
use Rattle.wake_core.specs.Plain.{Plain, hand}
use Rattle.wake_core.specs.Fields.{IsFixed}
use Rattle.wake_core.specs.Sound.{Sound}
use Rattle.wake_core.specs.Events.{Acquires, Spends, Readies, Checks, Asks, Fetches, Tapes, Sends}
use Rattle.wake_core.specs.Events.{Fills, Looks, Clears, Yields, Releases, Ticks, Closes, Stops}
use Rattle.wake_core.specs.Laws.{Event}
use Rattle.cy_table.specs.declared.part.Part.{Part}
use Rattle.cy_table.specs.Layout.{clock_word, closing_word, tape_door, hold_word, state_word}
use Rattle.cy_table.specs.Layout.{flag_word, visitor_door, tape_slot, routine_slot, visitor_slot}
use Rattle.cy_table.specs.Layout.{words_for, slots_for, state_number, yes_or_no, stop_word}
use Rattle.cy_table.specs.Layout.{stop_number}
use Rattle.cy_table.specs.Deeds.{Deed, Did, numbers_of}
use Rattle.cy_table.specs.Seats.{Seat, Entry, Noted, Sight, TapeView, IsEmpty, AreSeen}
use Rattle.cy_table.specs.Seats.{Rise, total_live}
use Rattle.cy_table.specs.Deeds as deed
use Rattle.cy_table.specs.Seats.Entry.{Busy, Found, Saw, Clock, Closing}
use Rattle.cy_table.specs.Shown.{Spread, spread, routine_in, visitor_in, tape_in, routine_of}
use Rattle.cy_table.specs.Shown.{visitor_of, hand_of, Kept, Rooms, AreRoomy, roles_at, queue_at}
use Rattle.cy_table.specs.Shown.{overflow_at}
use Rattle.cy_table.specs.Shown.{routine_at, visitor_at, tape_at}

-- The slots and those that have what belongs there show the tape, the routines and the visitors of
-- n components.
pub record ShowsParts (n : ℕ) (tape : TapeView) (routines : ℕ → RoutineView)
    (visitors : ℕ → VisitorView) (t : Spread) : Type 0 where
  pub tape_kept : Kept (tape_in (t.home tape_slot)) (t.word tape_door) (λ j. (t.seat j).tape) tape
  pub routine_kept : (c : ℕ) → c < n → Kept (routine_in (t.home (routine_slot c)))
      (t.word (hold_word c)) (λ j. routine_of c (t.seat j).hand) (routines c)
  pub visitor_kept : (c : ℕ) → c < n → Kept (visitor_in (t.home (visitor_slot c)))
      (t.word (visitor_door c)) (λ j. visitor_of c (t.seat j).visit) (visitors c)

-- Words show the states, the flags, the clock, whether the run is closing, and the stop.
pub record ShowsWords (n : ℕ) (states : ℕ → State) (spent : ℕ → Bool) (clock : ℕ) (closing : Bool)
    (stop : ℕ) (word : ℕ → ℕ) : Type 0 where
  pub state : (c : ℕ) → c < n → word (state_word c) ≡ state_number (states c)
  pub flag : (c : ℕ) → c < n → word (flag_word c) ≡ yes_or_no (spent c)
  pub clock_is : word clock_word ≡ clock
  pub closing_is : word closing_word ≡ yes_or_no closing
  pub stop_is : word (stop_word n) ≡ stop

-- Seats show what each thread has in hand and owes, and to whom it owes something the message.
pub record ShowsThreads (hands : ℕ → Option Hand) (fills : ℕ → List (ℕ × ℕ))
    (news clearing : ℕ → List ℕ) (tokens : ℕ → Token) (seat : ℕ → Seat) : Type 0 where
  pub hand_is : (j : ℕ) → hands j ≡ hand_of (seat j).hand
  pub fills_are : (j : ℕ) → fills j ≡ (seat j).fills
  pub news_are : (j : ℕ) → news j ≡ (seat j).news
  pub clearing_is : (j : ℕ) → clearing j ≡ (seat j).clearing
  pub token_is : (j : ℕ) → fills j ≢ [] → tokens j ≡ (seat j).token

-- All of them show one plain world.
pub record Shows (r : Rooms) (w : Plain) (t : Spread) : Type 0 where
  pub parts : ShowsParts (length w.routes) (tape_at r w) (routine_at r w) (visitor_at r w) t
  pub words : ShowsWords (length w.routes) w.states w.spent w.clock w.closing
      (stop_number w.stop w.raised) t.word
  pub threads : ShowsThreads w.hands w.fills w.news w.clearing w.tokens t.seat

-- What a thread knows of the world beside what it has: what the table is for, the calls that it
-- saw, a clock that is past, and that the run is closing where it found so. A seat that was joined
-- is empty. The player knows the played messages, the clock, whether the run is closing and whether
-- the stop is raised.
pub record Knows (w : Plain) (j : ℕ) (v : Seat) : Type 0 where
  pub made : v.live ≢ 0 → (v.routes ≡ w.routes) × (v.counts ≡ w.counts) × (v.stop ≡ w.stop)
  pub joined : v.live ≡ 0 → IsEmpty v
  pub calls : AreSeen w.calls v.seen
  pub past : v.clock ≤ w.clock
  pub closes : v.closing ≡ true → w.closing ≡ true
  pub player : j ≡ 0
      → (v.played ≡ played_of w.routes w.tape) × (v.clock ≡ w.clock) × (v.closing ≡ w.closing)
      × (v.raised ≡ w.raised)

-- The table shows a plain world that a run can come to. The player's seat is there, and counts the
-- others that are.
pub record Rules (r : Rooms) (w : Plain) (s : Table Part Seat) : Type 0 where
  pub wide : length s.words ≡ words_for (length w.routes)
  pub deep : length s.homes ≡ slots_for (length w.routes)
  pub sound : Sound w
  pub fixed : IsFixed w.routes w.counts
  pub roomy : AreRoomy w.routes w.counts r
  pub shows : Shows r w (spread s)
  pub knows : (j : ℕ) (v : Seat) → get_elem? s.views j ≡ some v → Knows w j v
  pub counted : (v : Seat) → get_elem? s.views 0 ≡ some v
      → (v.live ≡ 1) × (total_live s.views ≡ v.split + 1)

-- A visitor has what arrived at a component of a world, for its readers and with its queue, and
-- goes on as the component does where a tuple isn't kept any more.
pub record IsVisitorOf (w : Plain) (c : ℕ) (x : VisitorView) : Type 0 where
  pub arrivals : x.arrivals ≡ w.arrivals c
  pub roles : x.roles ≡ roles_at w.routes c
  pub queue : x.queue ≡ queue_at w.routes w.counts c
  pub overflow : x.overflow ≡ overflow_at w.routes c

-- What a thread noted is so in a world: some thread holds the croutine; it is in that state; the
-- visitor is the component's; the clock, and whether the run is closing.
abbrev pub IsSo : Plain → Entry → Type 0
IsSo w (Busy c) = (p : ℕ) × (phase : Phase) × (w.hands p ≡ hand c phase)
IsSo w (Found c state) = w.states c ≡ state
IsSo w (Saw c visitor) = IsVisitorOf w c visitor
IsSo w (Clock time) = w.clock ≡ time
IsSo w (Closing closing) = w.closing ≡ closing

-- A deed of a thread leads from one world to another: it is this event, by this thread.
abbrev pub Makes : (id : ℕ) → Deed → Plain → Plain → Type 0
Makes id (deed.Acquire c) w v = Acquires id c w v
Makes id (deed.Spend c seen) w v = Spends id c seen w v
Makes id (deed.Ready c) w v = Readies id c w v
Makes id (deed.Check c) w v = Checks id c w v
Makes id (deed.Ask c) w v = Asks id c w v
Makes id (deed.Fetch c) w v = Fetches id c w v
Makes id (deed.Tape token) w v = Tapes token w v
Makes id (deed.Send c next token) w v = Sends id c next token w v
Makes id (deed.Fill c role) w v = Fills id c role w v
Makes id (deed.Look c) w v = Looks id c w v
Makes id (deed.Clear c) w v = Clears id c w v
Makes id (deed.Yield c state) w v = Yields id c state w v
Makes id (deed.Release c) w v = Releases id c w v
Makes id (deed.Tick time) w v = Ticks time w v
Makes id deed.Close w v = Closes w v
Makes id deed.Stop w v = Stops w v

-- A way from one world to another, step by step. Each step is one event, or leaves the world as it
-- is.
abbrev pub Moves : Plain → Plain → Type 0
Moves w v = (v ≡ w) ⊎ Event w v

pub record Way (from to : Plain) : Type 0 where
  pub at : ℕ → Plain
  pub steps : ℕ
  pub starts : at 0 ≡ from
  pub ends : at steps ≡ to
  pub each : (k : ℕ) → k < steps → Moves (at k) (at (k + 1))

-- There are as many marks as entries, and each entry is so in the world behind the step of its
-- mark.
abbrev pub AreSo : (ℕ → Plain) → List Entry → List ℕ → Type 0
AreSo at [] [] = Unit {0}
AreSo at [] (k ∷ marks) = ⊥
AreSo at (x ∷ entries) [] = ⊥
AreSo at (x ∷ entries) (k ∷ marks) = IsSo (at k) x × AreSo at entries marks

-- A thread's deed is the event of the step of its number: it leads from the world before that step
-- to the one behind it. So is each of many.
pub record IsDone (at : ℕ → Plain) (id : ℕ) (d : Did) : Type 0 where
  pub before : ℕ
  pub next : d.number ≡ before + 1
  pub makes : Makes id d.deed (at before) (at d.number)

abbrev pub AreDone : (ℕ → Plain) → (id : ℕ) → List Did → Type 0
AreDone at id [] = Unit {0}
AreDone at id (d ∷ rest) = IsDone at id d × AreDone at id rest

-- A thread noted its entries in order and made its deeds in order, by steps up to a last one.
pub record WereSo (at : ℕ → Plain) (id last : ℕ) (entries : List Entry) (marks : List ℕ)
    (deeds : List Did) : Type 0 where
  pub rising : Rise 0 last marks
  pub so : AreSo at entries marks
  pub ordered : Rise 0 last (numbers_of deeds)
  pub done : AreDone at id deeds

-- .. some thread, which handed it on.
pub record WereHanded (at : ℕ → Plain) (last : ℕ) (n : Noted) : Type 0 where
  pub thread : ℕ
  pub were : WereSo at thread last n.entries n.marks n.deeds

abbrev pub AllWereSo : (ℕ → Plain) → (last : ℕ) → List Noted → Type 0
AllWereSo at last [] = Unit {0}
AllWereSo at last (n ∷ rest) = WereHanded at last n × AllWereSo at last rest

-- What a thread noted and did was so on a way, and so was what was handed on to it.
pub record IsMarked {from to : Plain} (way : Way from to) (id : ℕ) (v : Sight) : Type 0 where
  pub last : v.last ≤ way.steps
  pub own : WereSo way.at id v.last v.seat.note v.marks v.deeds
  pub others : AllWereSo way.at way.steps v.handed

-- The table without the numbers of steps.
abbrev pub seats_of : Table Part Sight → Table Part Seat
seats_of s = record { words = s.words; homes = s.homes; views = map (λ v. v.seat) s.views }

-- The rule of a table that was made of a world: there is a way from this to the world that the
-- table shows, with a step for each step of a thread. Each entry that a thread noted was so on it
-- behind the step that noted it, and each deed of a thread is the event of its step.
pub record Ruled (made : Plain) (s : Table Part Sight) : Type 0 where
  pub world : Plain
  pub rooms : Rooms
  pub components : world.routes ≡ made.routes
  pub planned : world.counts ≡ made.counts
  pub stop : world.stop ≡ made.stop
  pub way : Way made world
  pub noted : (j : ℕ) (v : Sight) → get_elem? s.views j ≡ some v → IsMarked way j v
  pub rules : Rules rooms world (seats_of s)
