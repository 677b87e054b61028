-- The laws of the steps. Where a table shows a world before a step, and the seat that steps shows
-- what the step needs, then the table shows a world after it: the one that the event gives, or the
-- same.
use Rattle.std.specs.Prelude.{ℕ, ◌+◌, ◌≡◌, ◌≢◌, ◌≤◌, ◌<◌, ◌==◌, List, [], ◌∷◌, ◌++◌, length}
use Rattle.std.specs.Prelude.{slice_index, slice_set, true, Some, None}
use mathlib.Core.Option.{some}
use mathlib.Core.Option as maybe
use lib.ListN.{get_elem?}
use Rattle.atomic_table.specs.Table.{State as Table, stepped, keeps, takes, gives}
use Rattle.cy_msg.specs.declared.token.Token.{Token}
use Rattle.cy_msg.specs.declared.token.Tuple.{Tuple}
use Rattle.cy_msg.specs.Tokens.{on_channel}
use Rattle.cy_fuse.specs.Visitor.{VisitorView, arrived, visited}
use Rattle.cy_comp.specs.declared.call.Out.{Out}
use Rattle.cy_comp.specs.Calls.{cursor_after, outs}
use Rattle.cy_comp.specs.Routine.{RoutineView, MayTake}
use Rattle.wake_core.specs.declared.entries.TheConstants.{MOST_PLANNED}
use Rattle.wake_core.specs.declared.phase.Phase.TheVariants.{Asked}
use Rattle.wake_core.specs.Plain.{Plain, stops}
use Rattle.wake_core.specs.Events.{Acquires, Spends, Readies, Asks, Fills, Looks, Clears}
use Rattle.wake_core.specs.Events.{Yields, Releases, Ticks, Closes, Tapes, Sends}
use Rattle.wake_core.specs.Events.{Fetches, Checks, Stops}
use Rattle.wake_core.specs.Sound.{Sound}
use Rattle.wake_core.specs.Fields.{IsFixed}
use Rattle.wake_core.specs.Laws.{IsIdle}
use Rattle.cy_table.specs.declared.part.Part.{Part}
use Rattle.cy_table.specs.declared.part.Part.TheVariants as part
use Rattle.cy_table.specs.Layout.{clock_word, closing_word, hold_word, state_word, flag_word}
use Rattle.cy_table.specs.Layout.{tape_door, visitor_door, tape_slot, routine_slot}
use Rattle.cy_table.specs.Layout.{visitor_slot, state_number, stop_word, stop_number}
use Rattle.cy_table.specs.Seats.{Seat, Seen, Grip, Visit, TapeView, no_seat}
use Rattle.cy_table.specs.Seats.{AreSeen, IsEmpty}
use Rattle.cy_table.specs.Shown.{Rooms, AreRoomy, LiesOpen, routine_at, visitor_at, tape_at}
use Rattle.cy_table.specs.Rule.{Rules}
use Rattle.cy_table.specs.Steps.{Sits, Becomes, acquiring, failing, MayReady, readying, MayAsk}
use Rattle.cy_table.specs.Steps.{asking, MayYield, next_state, yielding, MayRelease, releasing}
use Rattle.cy_table.specs.Steps.{MaySpend, spending, looking, clearing_but, seeing, ticking}
use Rattle.cy_table.specs.Steps.{heeding, closing_all, entering, visiting, filling}
use Rattle.cy_table.specs.Steps.{with_message, MayTape, taping, MaySend, out_at, output_at}
use Rattle.cy_table.specs.Steps.{phase_sent, sending, fetching, splitting, split_off, joining}
use Rattle.cy_table.specs.Steps.{first_seat, MayClose, MayCheck, checking, MayRaise, raising}

-- The swap of a hold word, by a thread with nothing in hand: the event Acquire where it was found
-- free, and then the routine was at home; else no event.
pub record HoldSwaps : Type 0 where
  pub free : (r : Rooms) (w : Plain) (s : Table Part Seat) (id c : ℕ) (v : Seat)
      (out : List (ℕ × Part)) → Sits r w s id v → v.hand ≡ None → c < length w.routes
      → slice_index s.words (hold_word c) ≡ 0
      → (x : RoutineView) × (get_elem? s.homes (routine_slot c) ≡ some (some (part.Routine x)))
      × (x ≡ routine_at r w c)
      × Becomes r (Acquires id c) w (stepped s (hold_word c) 1 id out (acquiring v c x)
      (takes (routine_slot c) (part.Routine x)))
  pub held : (r : Rooms) (w : Plain) (s : Table Part Seat) (id c : ℕ) (v : Seat)
      (out : List (ℕ × Part)) → Sits r w s id v → c < length w.routes
      → slice_index s.words (hold_word c) ≢ 0
      → Rules r w (stepped s (hold_word c) 1 id out (failing v c) keeps)

-- The stores of a state: the events Ready, Ask and Yield.
pub record StateStores : Type 0 where
  pub ready : (r : Rooms) (w : Plain) (s : Table Part Seat) (id : ℕ) (v : Seat) (g : Grip)
      (out : List (ℕ × Part)) → Sits r w s id v → v.hand ≡ Some g → MayReady v g
      → Becomes r (Readies id g.croutine) w
      (stepped s (state_word g.croutine) 0 id out (readying v g) keeps)
  pub ask : (r : Rooms) (w : Plain) (s : Table Part Seat) (id : ℕ) (v : Seat) (g : Grip)
      (out : List (ℕ × Part)) → Sits r w s id v → v.hand ≡ Some g → MayAsk g
      → Becomes r (Asks id g.croutine) w
      (stepped s (state_word g.croutine) 1 id out (asking v g) keeps)
  pub yield_as : (r : Rooms) (w : Plain) (s : Table Part Seat) (id : ℕ) (v : Seat) (g : Grip)
      (out : List (ℕ × Part)) → Sits r w s id v → v.hand ≡ Some g → MayYield v g
      → Becomes r (Yields id g.croutine (next_state g)) w (stepped s (state_word g.croutine)
      (state_number (next_state g)) id out (yielding v g) keeps)

-- The store of a hold word, when the routine in its slot is the one that the seat shows: the event
-- Release.
pub record HoldStores : Type 0 where
  pub release : (r : Rooms) (w : Plain) (s : Table Part Seat) (id : ℕ) (v : Seat) (g : Grip)
      (out : List (ℕ × Part)) → Sits r w s id v → v.hand ≡ Some g → MayRelease g
      → Becomes r (Releases id g.croutine) w (stepped s (hold_word g.croutine) 0 id
      ((routine_slot g.croutine, part.Routine g.routine) ∷ out) (releasing v) gives)

-- The swap of a flag: the event Spend, at the clock that the thread set or saw last.
pub record FlagSwaps : Type 0 where
  pub spend : (r : Rooms) (w : Plain) (s : Table Part Seat) (id : ℕ) (v : Seat) (g : Grip)
      (out : List (ℕ × Part)) → Sits r w s id v → v.hand ≡ Some g → MaySpend v g
      → Becomes r (Spends id g.croutine v.clock) w (stepped s (flag_word g.croutine) 1 id out
      (spending v g (slice_index s.words (flag_word g.croutine) == 1)) keeps)

-- The load of a state by a thread that has filled all readers, of the first of its news: the event
-- Look.
pub record StateLoads : Type 0 where
  pub look : (r : Rooms) (w : Plain) (s : Table Part Seat) (id : ℕ) (v : Seat) (c : ℕ)
      (later : List ℕ) (out : List (ℕ × Part)) → Sits r w s id v → v.fills ≡ []
      → v.news ≡ c ∷ later → c < length w.routes
      → Becomes r (Looks id c) w (stepped s (state_word c) (slice_index s.words (state_word c)) id
      out (looking v c later (slice_index s.words (state_word c) == 1)) keeps)

-- The store of a flag that is to be cleared: the event Clear.
pub record FlagStores : Type 0 where
  pub clear : (r : Rooms) (w : Plain) (s : Table Part Seat) (id : ℕ) (v : Seat) (c : ℕ)
      (before after : List ℕ) (out : List (ℕ × Part)) → Sits r w s id v
      → v.clearing ≡ before ++ c ∷ after → c < length w.routes
      → Becomes r (Clears id c) w
      (stepped s (flag_word c) 0 id out (clearing_but v (before ++ after)) keeps)

-- The load of the clock, which is no event, and finds no time before one that the thread set or
-- saw; and its store by the player: the event Tick.
pub record ClockSteps : Type 0 where
  pub load : (r : Rooms) (w : Plain) (s : Table Part Seat) (id : ℕ) (v : Seat)
      (out : List (ℕ × Part)) → Sits r w s id v
      → Rules r w (stepped s clock_word (slice_index s.words clock_word) id out
      (seeing v (slice_index s.words clock_word)) keeps)
  pub rises : (r : Rooms) (w : Plain) (s : Table Part Seat) (id : ℕ) (v : Seat) → Sits r w s id v
      → v.clock ≤ slice_index s.words clock_word
  pub tick : (r : Rooms) (w : Plain) (s : Table Part Seat) (v : Seat) (time : ℕ)
      (out : List (ℕ × Part)) → Sits r w s 0 v → v.clock ≤ time
      → Becomes r (Ticks time) w (stepped s clock_word time 0 out (ticking v time) keeps)

-- The load of the word that says whether the run is closing, which is no event; and its store by
-- the player when all was played: the event Close.
pub record ClosingSteps : Type 0 where
  pub load : (r : Rooms) (w : Plain) (s : Table Part Seat) (id : ℕ) (v : Seat)
      (out : List (ℕ × Part)) → Sits r w s id v
      → Rules r w (stepped s closing_word (slice_index s.words closing_word) id out
      (heeding v (slice_index s.words closing_word == 1)) keeps)
  pub is_true : (r : Rooms) (w : Plain) (s : Table Part Seat) (id : ℕ) (v : Seat)
      → Sits r w s id v → (slice_index s.words closing_word == 1) ≡ w.closing
  pub close : (r : Rooms) (w : Plain) (s : Table Part Seat) (v : Seat) (out : List (ℕ × Part))
      → Sits r w s 0 v → MayClose v
      → Becomes r Closes w (stepped s closing_word 1 0 out (closing_all v) keeps)

-- The load of the stop word by the holder of a croutine that is to be resumed: the event Check. The
-- word names a component exactly where the raised stop does.
pub record StopLoads : Type 0 where
  pub check : (r : Rooms) (w : Plain) (s : Table Part Seat) (id : ℕ) (v : Seat) (g : Grip)
      (out : List (ℕ × Part)) → Sits r w s id v → v.hand ≡ Some g → MayCheck g
      → let i = stop_word (length w.routes) in
      Becomes r (Checks id g.croutine) w (stepped s i (slice_index s.words i) id out
      (checking v g (slice_index s.words i == g.croutine + 1)) keeps)
  pub names : (r : Rooms) (w : Plain) (s : Table Part Seat) (c : ℕ) → Rules r w s
      → c < length w.routes
      → (slice_index s.words (stop_word (length w.routes)) == c + 1) ≡ stops w.stop w.raised c

-- The store of the stop word by the player, when as many messages were played as the stop says: the
-- event Stop.
pub record StopStores : Type 0 where
  pub stop : (r : Rooms) (w : Plain) (s : Table Part Seat) (v : Seat) (out : List (ℕ × Part))
      → Sits r w s 0 v → MayRaise v
      → Becomes r Stops w (stepped s (stop_word (length w.routes)) (stop_number w.stop true) 0 out
      (raising v) keeps)

-- The swaps of a door, which are no event. Where it was found open, the slot had the tape, or the
-- visitor, that the world has.
pub record TapeDoorSwaps : Type 0 where
  pub open_door : (r : Rooms) (w : Plain) (s : Table Part Seat) (id : ℕ) (v : Seat)
      (out : List (ℕ × Part)) → Sits r w s id v → v.tape ≡ None
      → slice_index s.words tape_door ≡ 0
      → (x : TapeView) × (get_elem? s.homes tape_slot ≡ some (some (part.Tape x)))
      × (x ≡ tape_at r w)
      × Rules r w (stepped s tape_door 1 id out (entering v x) (takes tape_slot (part.Tape x)))
  pub shut_door : (r : Rooms) (w : Plain) (s : Table Part Seat) (id : ℕ) (v : Seat)
      (out : List (ℕ × Part)) → Sits r w s id v → slice_index s.words tape_door ≢ 0
      → Rules r w (stepped s tape_door 1 id out v keeps)

pub record VisitorDoorSwaps : Type 0 where
  pub open_door : (r : Rooms) (w : Plain) (s : Table Part Seat) (id c : ℕ) (v : Seat)
      (out : List (ℕ × Part)) → Sits r w s id v → c < length w.routes → v.visit ≡ None
      → slice_index s.words (visitor_door c) ≡ 0
      → (x : VisitorView) × (get_elem? s.homes (visitor_slot c) ≡ some (some (part.Visitor x)))
      × (x ≡ visitor_at r w c)
      × Rules r w (stepped s (visitor_door c) 1 id out (visiting v c x)
      (takes (visitor_slot c) (part.Visitor x)))
  pub shut_door : (r : Rooms) (w : Plain) (s : Table Part Seat) (id c : ℕ) (v : Seat)
      (out : List (ℕ × Part)) → Sits r w s id v → c < length w.routes
      → slice_index s.words (visitor_door c) ≢ 0
      → Rules r w (stepped s (visitor_door c) 1 id out v keeps)

-- The store of a visitor's door, when the slot has one arrival more, of the first of the readers
-- that are to be filled: the event Fill.
pub record FillStores : Type 0 where
  pub fill : (r : Rooms) (w : Plain) (s : Table Part Seat) (id : ℕ) (v : Seat) (a : Visit) (j : ℕ)
      (later : List (ℕ × ℕ)) (out : List (ℕ × Part)) → Sits r w s id v → v.visit ≡ Some a
      → v.fills ≡ (a.component, j) ∷ later → a.component < length w.routes
      → Becomes r (Fills id a.component j) w (stepped s (visitor_door a.component) 0 id
      ((visitor_slot a.component, part.Visitor (arrived a.visitor j v.token)) ∷ out)
      (filling v a.component j later) gives)

-- The stores of the tape's door, when the slot has one message more: the event Tape, by the player
-- or by a holder of the output that waits.
pub record TapeStores : Type 0 where
  pub play : (r : Rooms) (w : Plain) (s : Table Part Seat) (v : Seat) (x : TapeView) (t : Token)
      (out : List (ℕ × Part)) → Sits r w s 0 v → v.tape ≡ Some x → MayTape v t
      → Becomes r (Tapes t) w (stepped s tape_door 0 0
      ((tape_slot, part.Tape (with_message x t)) ∷ out) (taping v t) gives)
  pub send : (r : Rooms) (w : Plain) (s : Table Part Seat) (id : ℕ) (v : Seat) (g : Grip)
      (x : TapeView) (o : Out) (out : List (ℕ × Part)) → Sits r w s id v → v.hand ≡ Some g
      → v.tape ≡ Some x → g.routine.pending ≡ Some o → MaySend v g
      → let t = output_at v.routes g.croutine x.messages o in
      Becomes r (Sends id g.croutine (phase_sent g.phase) t) w (stepped s tape_door 0 id
      ((tape_slot, part.Tape (with_message x t)) ∷ out) (sending v g t) gives)
  -- That output is the last of the component's, so a holder knows its number without the tape.
  pub number : (r : Rooms) (w : Plain) (s : Table Part Seat) (id : ℕ) (v : Seat) (g : Grip)
      (o : Out) → Sits r w s id v → v.hand ≡ Some g → g.routine.pending ≡ Some o
      → length (on_channel (out_at v.routes g.croutine) w.tape) + 1
      ≡ length (outs (out_at v.routes g.croutine) g.routine.calls)

-- The store of a visitor's door after a fetch, with the visitor as it was: the event Fetch, whether
-- a tuple was found or not.
pub record FetchStores : Type 0 where
  pub fetch : (r : Rooms) (w : Plain) (s : Table Part Seat) (id : ℕ) (v : Seat) (g : Grip)
      (a : Visit) (out : List (ℕ × Part)) → Sits r w s id v → v.hand ≡ Some g → g.phase ≡ Asked
      → v.visit ≡ Some a → a.component ≡ g.croutine
      → Becomes r (Fetches id g.croutine) w (stepped s (visitor_door a.component) 0 id
      ((visitor_slot a.component, part.Visitor a.visitor) ∷ out)
      (fetching v g a.visitor (visited (cursor_after g.routine.calls) a.visitor)) gives)

-- A seat is split off the player's, and an empty one is joined into it. The world stays; of a
-- thread that was joined it says nothing.
pub record BenchSteps : Type 0 where
  pub split : (r : Rooms) (w : Plain) (s : Table Part Seat) (v : Seat) → Sits r w s 0 v
      → Rules r w record {
        words = s.words;
        homes = s.homes;
        views = slice_set s.views 0 (splitting v) ++ split_off v ∷ [];
      }
  pub join : (r : Rooms) (w : Plain) (s : Table Part Seat) (v : Seat) (j : ℕ) (o : Seat)
      → Sits r w s 0 v → j ≢ 0 → get_elem? s.views j ≡ some o → o.live ≡ 1 → IsEmpty o
      → Rules r w record {
        words = s.words;
        homes = s.homes;
        views = slice_set (slice_set s.views 0 (joining v o)) j no_seat;
      }

-- What a seat shows leaves room for what it is to put: an output that waits, or the next message,
-- on the tape; a fill at its reader; a call that a fetch makes among the component's calls, of
-- which there are no more than a world keeps.
pub record RoomsLeft : Type 0 where
  pub send : (r : Rooms) (w : Plain) (s : Table Part Seat) (id : ℕ) (v : Seat) (g : Grip) (o : Out)
      → Sits r w s id v → v.hand ≡ Some g → g.routine.pending ≡ Some o → length w.tape < r.tape
  pub play : (r : Rooms) (w : Plain) (s : Table Part Seat) (v : Seat) (t : Token)
      → Sits r w s 0 v → MayTape v t → length w.tape < r.tape
  pub fill : (r : Rooms) (w : Plain) (s : Table Part Seat) (id : ℕ) (v : Seat) (c j : ℕ)
      (later : List (ℕ × ℕ)) → Sits r w s id v → v.fills ≡ (c, j) ∷ later → c < length w.routes
      → length (w.arrivals c) < r.arrivals c
  pub calls : (r : Rooms) (w : Plain) (s : Table Part Seat) (c : ℕ) → Rules r w s
      → c < length w.routes → length (w.calls c) ≤ MOST_PLANNED
  -- .. and the tuple that a fetch finds may be taken.
  pub fetch : (r : Rooms) (w : Plain) (s : Table Part Seat) (id : ℕ) (v : Seat) (g : Grip)
      (a : Visit) (f : Tuple × ℕ × ℕ) → Sits r w s id v → v.hand ≡ Some g → g.phase ≡ Asked
      → v.visit ≡ Some a → a.component ≡ g.croutine
      → visited (cursor_after g.routine.calls) a.visitor ≡ Some f
      → MayTake g.routine f.0 f.1 × (length g.routine.calls < MOST_PLANNED)

-- A table that lies open, with the player's seat alone, shows a world at rest. And where the player
-- has and owes nothing, and no seat is split off, nobody has or owes anything, and the table lies
-- open.
pub record TableEnds : Type 0 where
  pub start : (r : Rooms) (w : Plain) (words : List ℕ) (homes : List (maybe.Option Part))
      (seen : List Seen) → Sound w → ((p : ℕ) → IsIdle p w) → IsFixed w.routes w.counts
      → AreRoomy w.routes w.counts r → LiesOpen r w words homes → AreSeen w.calls seen
      → Rules r w record {
        words = words;
        homes = homes;
        views = first_seat w seen ∷ [];
      }
  pub idle : (r : Rooms) (w : Plain) (s : Table Part Seat) (v : Seat) → Sits r w s 0 v
      → IsEmpty v → v.split ≡ 0 → (p : ℕ) → IsIdle p w
  pub open_table : (r : Rooms) (w : Plain) (s : Table Part Seat) (v : Seat) → Sits r w s 0 v
      → IsEmpty v → v.split ≡ 0 → LiesOpen r w s.words s.homes
