-- What each kind of step leaves of the seat that steps, and what the seat has to show before it.
use Rattle.std.specs.Prelude.{ℕ, ◌+◌, ◌-◌, ◌≡◌, ◌≢◌, ◌≤◌, ◌⊎◌, ◌==◌, Bool, true, false, List, []}
use Rattle.std.specs.Prelude.{◌∷◌, ◌++◌, length, slice_get, slice_index, if◌then◌else◌, Option}
use Rattle.std.specs.Prelude.{Some, None}
use Rattle.std.specs.Option.{option_map_or}
use mathlib.Core.Option.{some}
use lib.ListN.{get_elem?}
use Rattle.atomic_table.specs.Table.{State as Table}
use Rattle.cy_msg.specs.declared.stop.Stop.{Stop}
use Rattle.cy_msg.specs.declared.token.Token.{Token}
use Rattle.cy_msg.specs.declared.token.Tuple.{Tuple}
use Rattle.cy_msg.specs.Tokens.{on_channel}
use Rattle.cy_fuse.specs.Visitor.{VisitorView}
use Rattle.cy_comp.specs.declared.call.Out.{Out}
use Rattle.cy_comp.specs.Calls.{last_outcome, held_until, output}
use Rattle.cy_comp.specs.Routine.{RoutineView, taken}
use Rattle.wake_core.specs.declared.route.Route.{Route}
use Rattle.wake_core.specs.Run.{readers_of, writes_from, played_of}
use Rattle.cy_comp.specs.declared.state.State.{State}
use Rattle.cy_comp.specs.declared.state.State.TheVariants.{Ready, DataWait, Finished}
use Rattle.wake_core.specs.Plain.{Plain, to_play_from}
use Rattle.wake_core.specs.declared.phase.Phase.{Phase}
use Rattle.wake_core.specs.declared.phase.Phase.TheVariants.{Fresh, Woken, Known, Checked}
use Rattle.wake_core.specs.declared.phase.Phase.TheVariants.{Stopping, Asked, Empty, Running}
use Rattle.wake_core.specs.declared.phase.Phase.TheVariants.{Sending, LastSending, Done}
use Rattle.wake_core.specs.Events.{IsDue, phase_after_spend, state_after}
use Rattle.cy_table.specs.declared.part.Part.{Part}
use Rattle.cy_table.specs.Seats.{Seat, Seen, Grip, TapeView, Entry, idle_seat}
use Rattle.cy_table.specs.Seats.Entry.{Busy, Found, Saw, Clock, Closing}
use Rattle.cy_table.specs.Shown.{Rooms}
use Rattle.cy_table.specs.Rule.{Rules}

-- A seat that is not joined, at a table that shows a world.
pub record Sits (r : Rooms) (w : Plain) (s : Table Part Seat) (id : ℕ) (v : Seat) : Type 0 where
  pub rules : Rules r w s
  pub at : get_elem? s.views id ≡ some v
  pub live : v.live ≢ 0

-- A step is an event: the table shows the world that the event gives, which is for the same
-- components, counts and stop.
pub record Becomes (r : Rooms) (event : Plain → Plain → Type 0) (w : Plain) (s : Table Part Seat)
    : Type 0 where
  pub world : Plain
  pub routes : world.routes ≡ w.routes
  pub counts : world.counts ≡ w.counts
  pub stop : world.stop ≡ w.stop
  pub happens : event w world
  pub rules : Rules r world s

abbrev pub noting : Seat → Entry → Seat
noting v entry = record v { note = v.note ++ entry ∷ [] }

-- The swap of a hold word, where it was found free: the croutine is in hand, with the routine that
-- was at home.
abbrev pub acquiring : Seat → ℕ → RoutineView → Seat
acquiring v c x = record v {
  hand = Some record { croutine = c; phase = Fresh; routine = x };
  seen = record { component = c; calls = x.calls } ∷ v.seen;
}

-- .. and where it was found held.
abbrev pub failing : Seat → ℕ → Seat
failing v c = noting v (Busy c)

-- A croutine in hand in another phase and state.
abbrev pub put_in : Seat → Grip → Phase → State → Seat
put_in v g phase state = record v {
  hand = Some record {
    croutine = g.croutine;
    phase = phase;
    routine = record g.routine { state = state };
  };
}

-- The stores of a state: READY, when woken or due; DATA_WAIT, before a fetch; and what the croutine
-- is to do next.
abbrev pub MayReady : Seat → Grip → Type 0
MayReady v g = (g.phase ≡ Woken) ⊎ ((g.phase ≡ Fresh) × IsDue g.routine.state v.clock)

abbrev pub readying : Seat → Grip → Seat
readying v g = noting (put_in v g Known Ready) (Found g.croutine Ready)

pub record MayAsk (g : Grip) : Type 0 where
  pub checked : g.phase ≡ Checked
  pub none_held : g.routine.pending ≡ None

abbrev pub asking : Seat → Grip → Seat
asking v g = put_in v g Asked DataWait

pub record OwesNone (v : Seat) : Type 0 where
  pub filled : v.fills ≡ []
  pub looked : v.news ≡ []
  pub cleared : v.clearing ≡ []

abbrev pub next_in : Phase → RoutineView → State
next_in Fresh x = x.state
next_in Woken x = x.state
next_in Known x = x.state
next_in Checked x = x.state
next_in Stopping x = Finished
next_in Asked x = x.state
next_in Empty x = DataWait
next_in Running x = option_map_or state_after (last_outcome x.kind x.calls) x.state
next_in Sending x = Ready
next_in LastSending x = Finished
next_in Done x = x.state

abbrev pub next_state : Grip → State
next_state g = next_in g.phase g.routine

pub record MayYield (v : Seat) (g : Grip) : Type 0 where
  pub owes : OwesNone v
  pub sent : (g.phase ≡ Empty)
      ⊎ ((g.phase ≡ Running)
      × (held_until (last_outcome g.routine.kind g.routine.calls) ≡ None
      → g.routine.pending ≡ None))
      ⊎ ((g.phase ≡ Sending) × (g.routine.pending ≡ None))
      ⊎ (((g.phase ≡ Stopping) ⊎ (g.phase ≡ LastSending)) × (g.routine.pending ≡ None))

abbrev pub yielding : Seat → Grip → Seat
yielding v g = put_in v g Done (next_state g)

-- The store of a hold word: nothing is in hand.
abbrev pub MayRelease : Grip → Type 0
MayRelease g = (g.phase ≡ Done) ⊎ (g.phase ≡ Known)

abbrev pub releasing : Seat → Seat
releasing v = record v { hand = None }

-- The swap of a flag: the state is known, or the croutine is woken.
pub record MaySpend (v : Seat) (g : Grip) : Type 0 where
  pub fresh : g.phase ≡ Fresh
  pub not_due : IsDue g.routine.state v.clock → ⊥

abbrev pub spent_note : Seat → Grip → Phase → List Entry
spent_note v g Woken = v.note
spent_note v g phase = v.note ++ Found g.croutine g.routine.state ∷ []

abbrev pub spending : Seat → Grip → (was_spent : Bool) → Seat
spending v g was_spent =
    let phase = phase_after_spend g.routine.state was_spent in
    record (put_in v g phase g.routine.state) { note = spent_note v g phase }

-- The load of a state: the first of the news was looked at, and its flag is to be cleared where it
-- waits.
abbrev pub looking : Seat → (c : ℕ) → (later : List ℕ) → (waits : Bool) → Seat
looking v c later waits = record v {
  news = later;
  clearing = if waits then v.clearing ++ c ∷ [] else v.clearing;
}

-- The store of a flag: one flag less is to be cleared.
abbrev pub clearing_but : Seat → List ℕ → Seat
clearing_but v rest = record v { clearing = rest }

-- The load of the clock, and its store, which the player notes too.
abbrev pub seeing : Seat → ℕ → Seat
seeing v time = record v { clock = time; note = v.note ++ Clock time ∷ [] }

abbrev pub ticking : Seat → ℕ → Seat
ticking v time = seeing v time

-- The load of the word that says whether the run is closing, and its store, which is noted too.
abbrev pub heeding : Seat → Bool → Seat
heeding v found = record v { closing = found; note = v.note ++ Closing found ∷ [] }

abbrev pub closing_all : Seat → Seat
closing_all v = heeding v true

-- .. by the player: all was played, and the stop raised where one is given.
abbrev pub HasRaised : Seat → Type 0
HasRaised v = (s : Stop) → v.stop ≡ Some s → v.raised ≡ true

pub record MayClose (v : Seat) : Type 0 where
  pub owes : OwesNone v
  pub raised : HasRaised v
  pub all : length v.played ≡ to_play_from v.routes 0 v.counts

-- The load of the stop word by the holder of a croutine that is to be resumed: it is to end where
-- the word names it.
pub record MayCheck (g : Grip) : Type 0 where
  pub known : g.phase ≡ Known
  pub ready : g.routine.state ≡ Ready

abbrev pub phase_checked : (stopped : Bool) → Phase
phase_checked stopped = if stopped then Stopping else Checked

abbrev pub checking : Seat → Grip → (stopped : Bool) → Seat
checking v g stopped = record v { hand = Some record g { phase = phase_checked stopped } }

-- .. and its store by the player, when as many messages were played as the stop says.
pub record MayRaise (v : Seat) : Type 0 where
  pub owes : OwesNone v
  pub given : Stop
  pub there : v.stop ≡ Some given
  pub unraised : v.raised ≡ false
  pub played : length v.played ≡ given.after

abbrev pub raising : Seat → Seat
raising v = record v { raised = true }

-- The swaps of a door that was found open: the tape, or a visitor, is in hand.
abbrev pub entering : Seat → TapeView → Seat
entering v x = record v { tape = Some x }

abbrev pub visiting : Seat → (c : ℕ) → VisitorView → Seat
visiting v c x = record v { visit = Some record { component = c; visitor = x } }

-- The store of a visitor's door after a fill: the first of the readers was filled. A component that
-- was triggered is news.
abbrev pub filling : Seat → (c role : ℕ) → (later : List (ℕ × ℕ)) → Seat
filling v c j later = record v {
  visit = None;
  fills = later;
  news = if j == 0 then v.news ++ c ∷ [] else v.news;
}

-- The store of a visitor's door after a fetch: a call is made on the tuple that was found, or
-- nothing was found. The visitor is noted in both cases.
abbrev pub called : Grip → Option (Tuple × ℕ × ℕ) → Grip
called g None = record g { phase = Empty }
called g (Some f) = record g { phase = Running; routine = taken g.routine f.0 f.1 f.2 }

abbrev pub fetching : Seat → Grip → VisitorView → Option (Tuple × ℕ × ℕ) → Seat
fetching v g x found =
    let h = called g found in
    record v {
      visit = None;
      hand = Some h;
      seen = record { component = g.croutine; calls = h.routine.calls } ∷ v.seen;
      note = v.note ++ Saw g.croutine x ∷ [];
    }

-- The stores of the tape's door. The message that was put there is owed to the readers of its
-- channel.
abbrev pub with_message : TapeView → Token → TapeView
with_message x t = record x { messages = x.messages ++ t ∷ [] }

abbrev pub owing : Seat → Token → Seat
owing v t = record v { tape = None; fills = readers_of v.routes t.channel; token = t }

-- .. by the player: the next message of a channel that no component writes, at its time, once the
-- stop is raised where it was to be raised by now.
pub record MayTape (v : Seat) (t : Token) : Type 0 where
  pub owes : OwesNone v
  pub raised : (s : Stop) → v.stop ≡ Some s → length v.played ≡ s.after → v.raised ≡ true
  pub unwritten : writes_from 0 v.routes t.channel ≡ None
  pub next : t.seq ≡ length (on_channel t.channel v.played) + 1
  pub within : t.seq ≤ slice_index v.counts t.channel
  pub now : t.time ≡ v.clock

abbrev pub taping : Seat → Token → Seat
taping v t = record (owing v t) { played = v.played ++ t ∷ [] }

-- .. by a holder: the output that waits, numbered behind those on the tape.
pub record MaySend (v : Seat) (g : Grip) : Type 0 where
  pub owes : OwesNone v
  pub sends : ((g.phase ≡ Running)
      × (held_until (last_outcome g.routine.kind g.routine.calls) ≡ None))
      ⊎ (g.phase ≡ Checked)
      ⊎ (g.phase ≡ Stopping)

abbrev pub out_at : List Route → ℕ → ℕ
out_at routes c = option_map_or (λ (x : Route). x.out) (slice_get routes c) 0

abbrev pub output_at : List Route → ℕ → List Token → Out → Token
output_at routes c tape out =
    output (out_at routes c) (length (on_channel (out_at routes c) tape) + 1) out

abbrev pub phase_sent : Phase → Phase
phase_sent Running = Running
phase_sent Stopping = LastSending
phase_sent phase = Sending

abbrev pub sent_grip : Grip → Grip
sent_grip g = record g {
  phase = phase_sent g.phase;
  routine = record g.routine { pending = None };
}

abbrev pub sending : Seat → Grip → Token → Seat
sending v g t = record (owing v t) { hand = Some (sent_grip g) }

-- A seat is split off the player's, with nothing in hand, nothing owed and no calls seen; and one
-- is joined, whose calls seen are kept.
abbrev pub splitting : Seat → Seat
splitting v = record v { split = v.split + 1 }

abbrev pub split_off : Seat → Seat
split_off v = idle_seat v.routes v.counts v.stop [] 1

abbrev pub joining : Seat → Seat → Seat
joining v o = record v { seen = o.seen ++ v.seen; split = v.split - 1 }

-- The player's seat at the start, which has seen some calls.
abbrev pub first_seat : Plain → List Seen → Seat
first_seat w seen = record (idle_seat w.routes w.counts w.stop seen 1) {
  played = played_of w.routes w.tape;
  clock = w.clock;
  closing = w.closing;
  raised = w.raised;
}
