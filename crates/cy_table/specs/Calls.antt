-- What each call of the table needs of the thread's pass, and what it leaves.
use Rattle.std.specs.Prelude.{Bool, true, false, ◌&&◌, not, if◌then◌else◌}
use Rattle.std.specs.Prelude.{ℕ, ◌≡◌, ◌≢◌, ◌≤◌, ◌<◌, ◌↔◌, List, [], ◌∷◌, length, Option, Some, None}
use Rattle.std.specs.Prelude.{IsNone, option_map, Result, Ok, Err}
use Rattle.cy_msg.specs.declared.token.Token.{Token}
use Rattle.cy_msg.specs.declared.token.Tuple.{Tuple}
use Rattle.cy_comp.specs.Calls.{cursor_after, outs, output}
use Rattle.cy_comp.specs.Routine.{RoutineView}
use Rattle.cy_fuse.specs.Fetch.{fetch}
use Rattle.cy_fuse.specs.Visitor.{VisitorView, tuples_at, visited}
use Rattle.wake_core.specs.Plain.{Plain}
use Rattle.wake_core.specs.WorldOf.{plain_of}
use Rattle.wake_core.specs.declared.phase.Phase.TheVariants.{Fresh, Asked}
use Rattle.wake_core.specs.Events.{is_waiting, is_ready}
use Rattle.wake_core.specs.Turns.{is_due}
use Rattle.cy_table.specs.declared.part.Part.TheVariants as part
use Rattle.cy_table.specs.declared.pass.Pass.{Pass}
use Rattle.cy_table.specs.declared.pass.Busy.{Busy}
use Rattle.cy_table.specs.declared.hold.Found.{Found}
use Rattle.cy_table.specs.declared.hold.Hold.{Hold}
use Rattle.cy_table.specs.declared.table.FlagTable.{FlagTable}
use Rattle.cy_table.specs.Layout.{routine_slot, visitor_slot, tape_slot}
use Rattle.cy_table.specs.Deeds.{Deed}
use Rattle.cy_table.specs.Seats.{Seat, Sight, TapeView, IsEmpty}
use Rattle.cy_table.specs.Deeds as deed
use Rattle.cy_table.specs.Shown.{roles_at, queue_at, overflow_at}
use Rattle.cy_comp.specs.declared.state.State.{State}
use Rattle.cy_table.specs.Steps.{visiting, entering, fetching, MayTape, MaySend, sending, out_at}
use Rattle.cy_table.specs.Steps.{MayReady, readying, MaySpend, spending, seeing}
use Rattle.cy_table.specs.Steps.{acquiring, failing, MayAsk, MayYield, next_state, MayRelease}
use Rattle.cy_table.specs.Steps.{MayClose, MayCheck, MayRaise}
use Rattle.cy_table.specs.Plays.{Thread, in_hand, HasSeen, but_first, later_fills, MayPut}
use Rattle.cy_table.specs.Sights.{thread_in, Since}
use Rattle.cy_table.specs.Hold.{with_found}

-- The world that a table was made of.
abbrev pub made_of : FlagTable → Plain
made_of t = plain_of t.table.shared.key.value

-- The thread of a pass, and what it knows; the thread's number, of which 0 is the player's.
abbrev pub thread_of : Pass → Thread
thread_of p = thread_in p.seat.me

abbrev pub seat_of : Pass → Seat
seat_of p = p.seat.me.0.seat

abbrev pub sight_of : Pass → Sight
sight_of p = p.seat.me.0

abbrev pub pass_number : Pass → ℕ
pass_number p = p.seat.id

-- What a pass knows, with the slots that it took before.
abbrev pub knowing : Pass → Seat → Thread
knowing p v = (v, p.seat.me.1)

-- A croutine in hand: its component, the channel that this writes, its routine with the call that
-- a fetch made, and the tuple on which the component is still to be stepped.
abbrev pub component_of : Hold → ℕ
component_of h = h.component

abbrev pub channel_of : Hold → ℕ
channel_of h = h.channel

abbrev pub routine_of : Hold → RoutineView
routine_of h = with_found h.routine h.found

abbrev pub to_step : Hold → Option Tuple
to_step h = option_map (λ (f : Found). f.tuple) h.found

-- The output that is to be sent: the last of what its calls put out, where it waits.
abbrev pub token_of : Hold → Option Token
token_of h = option_map
    (output (channel_of h) (length (outs (channel_of h) (routine_of h).calls)))
    (routine_of h).pending

-- A pass of a table, not joined; and one that is so after a call, with its number.
pub record IsAt (t : FlagTable) (p : Pass) : Type 0 where
  pub table : p.seat.table_id ≡ t.table.shared.table_id
  pub live : (seat_of p).live ≢ 0

pub record Stays (t : FlagTable) (p q : Pass) : Type 0 where
  pub at : IsAt t q
  pub number : pass_number q ≡ pass_number p

-- What a call noted, in order, and which events it made: each entry and each event has a number
-- above that of the last step of the pass before the call. The rule of the table says that an entry
-- was so on a way at its number, and that an event is the step of its number there.
abbrev pub NotedSince : List Deed → (p q : Pass) → Type 0
NotedSince deeds p q = Since deeds (sight_of p) (sight_of q)

-- The component in hand was stepped on each tuple that a fetch gave.
abbrev pub IsStepped : Hold → Type 0
IsStepped h = h.found ≡ None

-- A croutine in hand shows what it did before, whether its component was stepped or not.
pub record ShowsTheSame (h k : Hold) : Type 0 where
  pub component : component_of k ≡ component_of h
  pub channel : channel_of k ≡ channel_of h
  pub routine : routine_of k ≡ routine_of h

-- A pass with no croutine in hand, and one that has this croutine in hand.
pub record HasNoHold (p : Pass) : Type 0 where
  pub hand : (seat_of p).hand ≡ None
  pub out : (thread_of p).1 ≡ []

pub record Holds (t : FlagTable) (p : Pass) (h : Hold) : Type 0 where
  pub hand : (seat_of p).hand ≡ Some (in_hand (seat_of p))
  pub croutine : (in_hand (seat_of p)).croutine ≡ component_of h
  pub channel : channel_of h ≡ out_at (made_of t).routes (component_of h)
  pub routine : (in_hand (seat_of p)).routine ≡ routine_of h
  pub out : (thread_of p).1 ≡ (routine_slot (component_of h), part.Away) ∷ []
  pub inside : component_of h < length (made_of t).routes

-- Taking a croutine: the event Acquire, or none where it was found held.
pub record MayAcquire (t : FlagTable) (p : Pass) (c : ℕ) : Type 0 where
  pub at : IsAt t p
  pub free : HasNoHold p
  pub inside : c < length (made_of t).routes

pub record Acquired (t : FlagTable) (p : Pass) (c : ℕ) (q : Pass) (h : Hold) : Type 0 where
  pub component : component_of h ≡ c
  pub seat : seat_of q ≡ acquiring (seat_of p) c (routine_of h)
  pub holds : Holds t q h
  pub stepped : IsStepped h
  pub seen : HasSeen c (routine_of h).calls (seat_of p).seen

abbrev pub acquire_deeds : (c : ℕ) → Result Hold Busy → List Deed
acquire_deeds c (Ok h) = deed.Acquire c ∷ []
acquire_deeds c (Err busy) = []

pub record FoundHeld (p : Pass) (c : ℕ) (q : Pass) : Type 0 where
  pub seat : seat_of q ≡ failing (seat_of p) c
  pub free : HasNoHold q

-- The events Check, Ask, Yield and Release, of the croutine in hand.
pub record CanResume (t : FlagTable) (p : Pass) (h : Hold) : Type 0 where
  pub at : IsAt t p
  pub holds : Holds t p h
  pub stepped : IsStepped h
  pub may : MayCheck (in_hand (seat_of p))

pub record CanAsk (t : FlagTable) (p : Pass) (h : Hold) : Type 0 where
  pub at : IsAt t p
  pub holds : Holds t p h
  pub stepped : IsStepped h
  pub may : MayAsk (in_hand (seat_of p))

pub record CanYield (t : FlagTable) (p : Pass) (h : Hold) (state : State) : Type 0 where
  pub at : IsAt t p
  pub holds : Holds t p h
  pub stepped : IsStepped h
  pub may : MayYield (seat_of p) (in_hand (seat_of p))
  pub next : state ≡ next_state (in_hand (seat_of p))

pub record CanRelease (t : FlagTable) (p : Pass) (h : Hold) : Type 0 where
  pub at : IsAt t p
  pub holds : Holds t p h
  pub stepped : IsStepped h
  pub may : MayRelease (in_hand (seat_of p))

-- The events Tick, Stop and Close, by the player; and a look at the first of the news, when all
-- readers are filled.
pub record CanTick (t : FlagTable) (p : Pass) (time : ℕ) : Type 0 where
  pub at : IsAt t p
  pub player : pass_number p ≡ 0
  pub later : (seat_of p).clock ≤ time

pub record CanRaise (t : FlagTable) (p : Pass) : Type 0 where
  pub at : IsAt t p
  pub player : pass_number p ≡ 0
  pub may : MayRaise (seat_of p)

pub record CanClose (t : FlagTable) (p : Pass) : Type 0 where
  pub at : IsAt t p
  pub player : pass_number p ≡ 0
  pub may : MayClose (seat_of p)

pub record CanLook (t : FlagTable) (p : Pass) (c : ℕ) : Type 0 where
  pub at : IsAt t p
  pub filled : (seat_of p).fills ≡ []
  pub news : (seat_of p).news ≡ c ∷ but_first (seat_of p).news
  pub inside : c < length (made_of t).routes

abbrev pub after_look : Seat → Seat
after_look v = record v { news = but_first v.news }

-- The event Look, and Clear where the component was found to wait for a message.
abbrev pub look_deeds : (c : ℕ) → (waits : Bool) → List Deed
look_deeds c waits = deed.Look c ∷ (if waits then deed.Clear c ∷ [] else [])

-- The player's pass, and a pass with nothing in hand and nothing owed that is joined into it.
pub record IsPlayer (t : FlagTable) (p : Pass) : Type 0 where
  pub at : IsAt t p
  pub player : pass_number p ≡ 0

-- .. of which so many seats were split off that one more may be.
pub record CanSplit (t : FlagTable) (p : Pass) : Type 0 where
  pub mine : IsPlayer t p
  pub few : (seat_of p).split < 64

pub record CanJoin (t : FlagTable) (p other : Pass) : Type 0 where
  pub mine : IsPlayer t p
  pub at : IsAt t other
  pub here : (seat_of other).live ≡ 1
  pub empty : IsEmpty (seat_of other)
  pub out : (thread_of other).1 ≡ []

-- An update of a croutine that was just taken: the clock is seen once; the croutine is made READY
-- where it is due at that time; else its flag is spent, and it is made READY where that woke it.
pub record CanUpdate (t : FlagTable) (p : Pass) (h : Hold) : Type 0 where
  pub at : IsAt t p
  pub holds : Holds t p h
  pub stepped : IsStepped h
  pub fresh : (in_hand (seat_of p)).phase ≡ Fresh

pub record CanReady (t : FlagTable) (p : Pass) (h : Hold) : Type 0 where
  pub at : IsAt t p
  pub holds : Holds t p h
  pub stepped : IsStepped h
  pub may : MayReady (seat_of p) (in_hand (seat_of p))

pub record CanSpend (t : FlagTable) (p : Pass) (h : Hold) : Type 0 where
  pub at : IsAt t p
  pub holds : Holds t p h
  pub stepped : IsStepped h
  pub may : MaySpend (seat_of p) (in_hand (seat_of p))

abbrev pub state_of : Seat → State
state_of v = (in_hand v).routine.state

abbrev pub ready_if : Bool → Seat → Seat
ready_if woken v = if woken then readying v (in_hand v) else v

abbrev pub after_spend : Seat → (was_spent : Bool) → Seat
after_spend v was_spent =
    ready_if (is_waiting (state_of v) && not was_spent) (spending v (in_hand v) was_spent)

-- The events of an update: Ready of one that is due; else Spend, and Ready where that woke the
-- croutine. It did where the croutine waited and is READY then.
abbrev pub spend_deeds : (c : ℕ) → (clock : ℕ) → (woken : Bool) → List Deed
spend_deeds c clock woken = deed.Spend c clock ∷ (if woken then deed.Ready c ∷ [] else [])

abbrev pub update_deeds : (c : ℕ) → (before : State) → (clock : ℕ) → (after : State) → List Deed
update_deeds c before clock after =
    if is_due before clock then deed.Ready c ∷ []
    else spend_deeds c clock (is_waiting before && is_ready after)

pub record Updated (v : Seat) (state : State) (u : Seat) : Type 0 where
  pub later : v.clock ≤ u.clock
  pub due : is_due (state_of v) u.clock ≡ true
      → u ≡ readying (seeing v u.clock) (in_hand v)
  pub not_due : is_due (state_of v) u.clock ≡ false
      → (was_spent : Bool) × (u ≡ after_spend (seeing v u.clock) was_spent)
  pub answer : state ≡ state_of u

-- A visit of a component; and a fill of a reader of it, the first of those that are owed.
pub record CanVisit (t : FlagTable) (p : Pass) (c : ℕ) : Type 0 where
  pub at : IsAt t p
  pub bare : (seat_of p).visit ≡ None
  pub inside : c < length (made_of t).routes

pub record CanFill (t : FlagTable) (p : Pass) (c role : ℕ) (token : Token) : Type 0 where
  pub visit : CanVisit t p c
  pub owes : (seat_of p).fills ≡ (c, role) ∷ later_fills (seat_of p).fills
  pub message : token ≡ (seat_of p).token
  pub reader : role < roles_at (seat_of p).routes c

-- A thread that took a visitor, which keeps as many tuples and has as many readers as its component
-- needs, goes on as that does where a tuple isn't kept any more, and has room where it is to be
-- filled.
pub record Visiting (p : Pass) (c : ℕ) (x : VisitorView) (q : Pass) : Type 0 where
  pub thread : thread_of q
      ≡ (visiting (seat_of p) c x, (visitor_slot c, part.Away) ∷ (thread_of p).1)
  pub queue : x.queue ≡ queue_at (seat_of p).routes (seat_of p).counts c
  pub roles : x.roles ≡ roles_at (seat_of p).routes c
  pub overflow : x.overflow ≡ overflow_at (seat_of p).routes c
  pub room : (j : ℕ) (later : List (ℕ × ℕ)) → (seat_of p).fills ≡ (c, j) ∷ later → 1 ≤ x.spare

-- The event Fetch, of the croutine in hand, which asked. What it finds is what the fetch rule gives
-- at the visitor, as it was while its door was held: it is noted, so the rule of the table says
-- that the component had it then.
pub record CanFetch (t : FlagTable) (p : Pass) (h : Hold) : Type 0 where
  pub visit : CanVisit t p (component_of h)
  pub holds : Holds t p h
  pub stepped : IsStepped h
  pub asked : (in_hand (seat_of p)).phase ≡ Asked

abbrev pub fetched_at : Hold → VisitorView → Option (Tuple × ℕ × ℕ)
fetched_at h x = visited (cursor_after (routine_of h).calls) x

pub record Fetched (t : FlagTable) (p : Pass) (h : Hold) (answer : Option Tuple) (q : Pass)
    (k : Hold) : Type 0 where
  pub visitor : VisitorView
  pub queue : visitor.queue ≡ queue_at (seat_of p).routes (seat_of p).counts (component_of h)
  pub roles : visitor.roles ≡ roles_at (seat_of p).routes (component_of h)
  pub overflow : visitor.overflow ≡ overflow_at (seat_of p).routes (component_of h)
  pub found : answer ≡ option_map (λ f. f.0) (fetched_at h visitor)
  pub none : IsNone answer ↔ IsNone (fetch (cursor_after (routine_of h).calls)
      (length (tuples_at visitor)) visitor.queue visitor.overflow)
  pub seat : seat_of q
      ≡ fetching (seat_of p) (in_hand (seat_of p)) visitor (fetched_at h visitor)
  pub holds : Holds t q k
  pub to_step : to_step k ≡ answer

-- The way to the tape, of one that has something to put there.
pub record CanEnter (t : FlagTable) (p : Pass) : Type 0 where
  pub at : IsAt t p
  pub bare : (seat_of p).tape ≡ None
  pub may : MayPut (pass_number p) (seat_of p)

-- The event Tape by the player.
pub record CanTape (t : FlagTable) (p : Pass) (token : Token) : Type 0 where
  pub at : IsAt t p
  pub player : pass_number p ≡ 0
  pub bare : (seat_of p).tape ≡ None
  pub may : MayTape (seat_of p) token

-- .. and by the holder of a component, of the output that waits.
pub record CanSend (t : FlagTable) (p : Pass) (h : Hold) : Type 0 where
  pub at : IsAt t p
  pub holds : Holds t p h
  pub stepped : IsStepped h
  pub waits : (routine_of h).pending ≢ None
  pub bare : (seat_of p).tape ≡ None
  pub may : MaySend (seat_of p) (in_hand (seat_of p))

pub record Sent (t : FlagTable) (p : Pass) (h : Hold) (token : Token) (q : Pass) (k : Hold)
    : Type 0 where
  pub waited : token_of h ≡ Some token
  pub seat : seat_of q ≡ sending (seat_of p) (in_hand (seat_of p)) token
  pub holds : Holds t q k
  pub stepped : IsStepped k

-- A thread that took the tape, which has room for a message.
pub record Entered (p : Pass) (x : TapeView) (q : Pass) : Type 0 where
  pub thread : thread_of q ≡ (entering (seat_of p) x, (tape_slot, part.Away) ∷ (thread_of p).1)
  pub room : length x.messages < x.room
