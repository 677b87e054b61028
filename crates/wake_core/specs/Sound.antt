-- What holds of every world that can be reached, part by part. Each part speaks only of the things
-- that it names, so that an event which leaves them alone keeps it. All is said as equations,
-- orders and denials, so that it is a proposition.
use Rattle.std.specs.Prelude.{ℕ, ◌+◌, ◌-◌, ◌≡◌, ◌≢◌, ◌≤◌, ◌<◌, ◌==◌, ◌&&◌, Bool, true, false}
use Rattle.std.specs.Prelude.{List, [], ◌∷◌}
use Rattle.std.specs.Prelude.{◌++◌, length, take, drop, Option, Some, None, slice_get}
use Rattle.cy_msg.specs.declared.token.Token.{Token}
use Rattle.cy_msg.specs.declared.token.Tuple.{Tuple}
use Rattle.cy_msg.specs.Tuple.{messages_of}
use Rattle.cy_msg.specs.Tokens.{on_channel, IsNumbered, IsTimed}
use Rattle.cy_fuse.specs.Fusion.{Arrival, fused}
use Rattle.cy_comp.specs.declared.call.Call.{Call}
use Rattle.cy_comp.specs.declared.call.Out.{Out}
use Rattle.cy_comp.specs.declared.call.Outcome.{Outcome}
use Rattle.cy_comp.specs.declared.call.Outcome.TheVariants.{Hold}
use Rattle.cy_comp.specs.Step.{outcome_after}
use Rattle.cy_comp.specs.Calls.{LawfulCalls, cursor_after, tuples_of, held_until, is_last, outs}
use Rattle.cy_comp.specs.Calls.{output}
use Rattle.wake_core.specs.Run.{Route, readers_of, writes_from, played_of}
use Rattle.wake_core.specs.Planned.{planned_count, first_reader}
use Rattle.wake_core.specs.Plain.{Plain, Stop, Hand, hand, State, Ready, DataWait, Sleep, Finished}
use Rattle.wake_core.specs.Plain.{Phase, Fresh, Woken, Known, Checked, Stopping, Asked, Empty}
use Rattle.wake_core.specs.Plain.{Running, Sending, LastSending, Done, reads, of_role, lists}
use Rattle.wake_core.specs.Plain.{lists_reader, last_of, made_of, taped_of, found_by, stops}

-- The components that a world is made for, with the number of messages that are played on each
-- channel: no two write one channel; each reads a channel and writes one that is known; the planned
-- count of what it writes is that of what triggers it; and an output is held back until its own
-- time.
pub record IsWired (routes : List Route) (counts : List ℕ) : Type 0 where
  pub own_outs : (c d : ℕ) (x y : Route) → slice_get routes c ≡ Some x → slice_get routes d ≡ Some y
      → x.out ≡ y.out → c ≡ d
  pub some_reader : (c : ℕ) (x : Route) → slice_get routes c ≡ Some x → 1 ≤ length x.readers
  pub outs_known : (c : ℕ) (x : Route) → slice_get routes c ≡ Some x → x.out < length counts
  pub planned : (c : ℕ) (x : Route) → slice_get routes c ≡ Some x
      → planned_count routes counts x.out ≡ planned_count routes counts (first_reader x)
  pub held_to_time : (c : ℕ) (x : Route) (earlier : List Tuple) (tuple : Tuple) (until : ℕ)
      (out : Out) → slice_get routes c ≡ Some x
      → outcome_after x.kind earlier tuple ≡ Hold until out → out.time ≡ until

-- Nobody holds a croutine that was called and has not yielded.
abbrev pub NotRunning : (ℕ → Option Hand) → ℕ → Type 0
NotRunning hands c = (p : ℕ) → hands p ≢ hand c Running

-- The state of a croutine that is held in a phase, where the phase tells it; and whether it is a
-- phase in which the croutine ends by the stop.
abbrev pub state_in : Phase → Option State
state_in Fresh = None
state_in Woken = Some DataWait
state_in Known = None
state_in Checked = Some Ready
state_in Stopping = Some Ready
state_in Asked = Some DataWait
state_in Empty = Some DataWait
state_in Running = Some DataWait
state_in Sending = Some Ready
state_in LastSending = Some Ready
state_in Done = None

abbrev pub is_ending : Phase → Bool
is_ending Stopping = true
is_ending LastSending = true
is_ending _ = false

-- Whether it is a phase in which an output is handed on; and whether a hand holds a croutine in
-- one.
abbrev pub is_handing : Phase → Bool
is_handing Running = true
is_handing Sending = true
is_handing LastSending = true
is_handing _ = false

abbrev pub hands_on : Option Hand → (component : ℕ) → Bool
hands_on None c = false
hands_on (Some h) c = h.croutine == c && is_handing h.phase

-- One holder, and what its phase says of the state. Of each croutine there is the outcome of its
-- last call, how many outputs its calls made, and how many of them are taped; where there are more,
-- the last is unsent; and whether the raised stop names it.
pub record Held (size : ℕ) (hands : ℕ → Option Hand) (states : ℕ → State)
    (last : ℕ → Option Outcome) (made taped : ℕ → ℕ) (stopped : ℕ → Bool) : Type 0 where
  -- 1. Holders: a croutine that is held is known, and has one.
  pub known : (p c : ℕ) (f : Phase) → hands p ≡ hand c f → c < size
  pub one : (c p q : ℕ) (f g : Phase) → hands p ≡ hand c f → hands q ≡ hand c g → p ≡ q
  -- 2. Phases: the state of a croutine that is held; and the raised stop names one that ends by it.
  pub phased : (p c : ℕ) (f : Phase) (s : State) → hands p ≡ hand c f → state_in f ≡ Some s
      → states c ≡ s
  pub stopping : (p c : ℕ) (f : Phase) → hands p ≡ hand c f → is_ending f ≡ true
      → stopped c ≡ true
  -- 3. Outcomes: the state of any croutine, and what of its output is unsent.
  -- SLEEP until u only after a Hold until u whose output is unsent.
  pub sleeps : (c u : ℕ) → states c ≡ Sleep u → held_until (last c) ≡ Some u
  pub asleep : (c u : ℕ) → states c ≡ Sleep u → taped c < made c
  -- FINISHED is the state only after a call that said Last, or where the raised stop names it; and
  -- after such a call it is, once its thread is out of Running.
  pub finished : (c : ℕ) → states c ≡ Finished → stopped c ≡ false → is_last (last c) ≡ true
  pub ended : (c : ℕ) → is_last (last c) ≡ true → NotRunning hands c → states c ≡ Finished
  -- In Running there is a call, and where it holds its output back, that is unsent.
  pub called : (p c : ℕ) → hands p ≡ hand c Running → last c ≢ None
  pub holds : (p c u : ℕ) → hands p ≡ hand c Running → held_until (last c) ≡ Some u
      → taped c < made c
  -- No more of its outputs stand on the tape than its calls made.
  pub few : (c : ℕ) → taped c ≤ made c
  -- Outside Running an unsent output was held back, and the state is then SLEEP or READY.
  pub held_back : (c : ℕ) → taped c < made c → NotRunning hands c → held_until (last c) ≢ None
  pub resting : (c : ℕ) → taped c < made c → NotRunning hands c → states c ≢ DataWait
  pub unended : (c : ℕ) → taped c < made c → NotRunning hands c → states c ≢ Finished

-- Calls: each component's are lawful for what arrived, and its next fetch begins where they leave
-- off.
pub record Called (routes : List Route) (arrivals : ℕ → List Arrival) (calls : ℕ → List Call)
    (cursors : ℕ → ℕ) : Type 0 where
  pub lawful : (c : ℕ) (x : Route) → slice_get routes c ≡ Some x
      → LawfulCalls x.kind (arrivals c) (length x.readers) x.queue x.overflow (calls c)
  pub cursor : (c : ℕ) (x : Route) → slice_get routes c ≡ Some x
      → cursors c ≡ cursor_after (calls c)

-- No thread has to fill this reader.
abbrev pub IsFilled : (ℕ → List (ℕ × ℕ)) → (component role : ℕ) → Type 0
IsFilled fills v j = (p : ℕ) → lists_reader v j (fills p) ≡ false

-- Delivery: at each reader arrived, in order, a beginning of what the tape has of its channel: all
-- of it, or all but the last where a thread still has to fill that reader with the last.
pub record Delivered (routes : List Route) (hands : ℕ → Option Hand) (calls : ℕ → List Call)
    (arrivals : ℕ → List Arrival) (fills : ℕ → List (ℕ × ℕ)) (news clearing : ℕ → List ℕ)
    (tokens : ℕ → Token) (tape : List Token) : Type 0 where
  pub begins : (v j channel : ℕ) → reads routes v j ≡ Some channel
      → of_role j (arrivals v) ≡ take (length (of_role j (arrivals v))) (on_channel channel tape)
  pub whole : (v j channel : ℕ) → reads routes v j ≡ Some channel → IsFilled fills v j
      → of_role j (arrivals v) ≡ on_channel channel tape
  pub owed : (p v j : ℕ) → lists_reader v j (fills p) ≡ true
      → of_role j (arrivals v) ++ tokens p ∷ [] ≡ on_channel (tokens p).channel tape
  pub known : (v n : ℕ) (a : Arrival) → slice_get (arrivals v) n ≡ Some a
      → reads routes v a.0 ≢ None
  -- The messages of a channel are numbered on the tape 1, 2, 3 and so on.
  pub numbered : IsNumbered tape
  -- The tape has what a component's calls put out, in order: of all calls, or of all but the last.
  pub history : (c : ℕ) (x : Route) → slice_get routes c ≡ Some x
      → on_channel x.out tape ≡ take (length (on_channel x.out tape)) (outs x.out (calls c))
  pub but_last : (c : ℕ) (x : Route) → slice_get routes c ≡ Some x
      → length (outs x.out (take (length (calls c) - 1) (calls c))) ≤ length (on_channel x.out tape)
  -- What a thread has to fill are the last of the readers of its message's channel. It is the
  -- player where no component writes the channel, and else the one that holds the component which
  -- does, in phase Running, Sending or LastSending.
  pub suffix : (p : ℕ) → let readers = readers_of routes (tokens p).channel in
      drop (length readers - length (fills p)) readers ≡ fills p
  pub player : (p : ℕ) → fills p ≢ [] → writes_from 0 routes (tokens p).channel ≡ None → p ≡ 0
  pub holder : (p c : ℕ) → fills p ≢ [] → writes_from 0 routes (tokens p).channel ≡ Some c
      → hands_on (hands p) c ≡ true
  -- News and those to clear are components that its message's channel triggers.
  pub told : (p v : ℕ) → lists v (news p) ≡ true → reads routes v 0 ≡ Some (tokens p).channel
  pub looked : (p v : ℕ) → lists v (clearing p) ≡ true → reads routes v 0 ≡ Some (tokens p).channel

-- A message is what the n-th call of a component put out.
pub record IsOutput (x : Route) (calls : List Call) (n : ℕ) (call : Call) (t : Token) : Type 0 where
  pub made : slice_get calls n ≡ Some call
  pub out : Out
  pub some : call.out ≡ Some out
  pub token : t ≡ output x.out (length (outs x.out (take n calls)) + 1) out

-- A message stands on a tape: there it is the one of its channel that its number says.
abbrev pub StandsOn : List Token → Token → Type 0
StandsOn tape m = slice_get (on_channel m.channel tape) (m.seq - 1) ≡ Some m

-- Causal: before an output on the tape there stands each message of each tuple that was fused when
-- the call was made which put it out; and the tuple of each call is one of these.
pub record Causal (routes : List Route) (arrivals : ℕ → List Arrival) (calls : ℕ → List Call)
    (tape : List Token) : Type 0 where
  pub before : (c : ℕ) (x : Route) (n : ℕ) (call : Call) (t : Token) (i : ℕ)
      → slice_get routes c ≡ Some x
      → IsOutput x (calls c) n call t → slice_get tape i ≡ Some t
      → (k : ℕ) (tuple : Tuple) → k < call.tail
      → slice_get (fused (arrivals c) (length x.readers)) k ≡ Some tuple
      → (j : ℕ) (m : Token) → slice_get (messages_of tuple) j ≡ Some m → StandsOn (take i tape) m
  pub own : (c : ℕ) (x : Route) (n : ℕ) (call : Call) → slice_get routes c ≡ Some x
      → slice_get (calls c) n ≡ Some call
      → slice_get (take call.tail (fused (arrivals c) (length x.readers))) (call.position - 1)
      ≡ Some call.tuple

-- Room: no channel has more messages on the tape than are planned, and no component more calls than
-- are planned of what triggers it.
pub record Room (routes : List Route) (counts : List ℕ) (calls : ℕ → List Call) (tape : List Token)
    : Type 0 where
  pub taped : (channel : ℕ) → length (on_channel channel tape) ≤ planned_count routes counts channel
  pub called : (c : ℕ) (x : Route) → slice_get routes c ≡ Some x
      → length (calls c) ≤ planned_count routes counts (first_reader x)
  pub channels : (n : ℕ) (t : Token) → slice_get tape n ≡ Some t → t.channel < length counts

-- All of this: holders, states, calls, deliveries, causes and room; nothing of flags and time.
abbrev pub HeldIn : Plain → Type 0
HeldIn w = Held (length w.routes) w.hands w.states (last_of w.routes w.calls)
    (made_of w.routes w.calls) (taped_of w.routes w.tape) (stops w.stop w.raised)

pub record Consistent (w : Plain) : Type 0 where
  pub wired : IsWired w.routes w.counts
  pub held : HeldIn w
  pub called : Called w.routes w.arrivals w.calls w.cursors
  pub delivered : Delivered w.routes w.hands w.calls w.arrivals w.fills w.news w.clearing w.tokens
      w.tape
  pub causal : Causal w.routes w.arrivals w.calls w.tape
  pub room : Room w.routes w.counts w.calls w.tape

-- No notification of a croutine is under way: it is in nobody's news, and nobody is to clear its
-- flag.
abbrev pub Unnotified : (news clearing : ℕ → List ℕ) → ℕ → Type 0
Unnotified news clearing c = (p : ℕ) → (lists c (news p) ≡ false) × (lists c (clearing p) ≡ false)

-- Nobody holds a croutine in a phase in which it fetches again before it parks.
abbrev pub Unwatched : (ℕ → Option Hand) → ℕ → Type 0
Unwatched hands c = (p : ℕ)
    → (hands p ≢ hand c Woken) × (hands p ≢ hand c Asked) × (hands p ≢ hand c Running)

-- Wake: where a spent croutine could fetch something and no notification of it is under way, it
-- isn't in DATA_WAIT, or is held in phase Woken, Asked or Running. (Said as its denial: that it is
-- in DATA_WAIT and unwatched can't be.)
pub record Wakes (hands : ℕ → Option Hand) (states : ℕ → State) (spent : ℕ → Bool)
    (found : ℕ → Option ℕ) (news clearing : ℕ → List ℕ) : Type 0 where
  pub none_lost : (c : ℕ) → spent c ≡ true → found c ≢ None → Unnotified news clearing c
      → states c ≡ DataWait
      → Unwatched hands c → ⊥

-- An output of a component was held back.
abbrev pub WasHeld : Route → List Call → ℕ → Call → Type 0
WasHeld x calls n call =
    held_until (Some (outcome_after x.kind (tuples_of (take n calls)) call.tuple)) ≢ None

-- Time: the played messages on the tape have times that never fall, none past the clock; the clock
-- is past the wake time of a READY croutine that holds an output back, and past the time of each
-- such output on the tape; and each played message behind such an output has a later time.
pub record Timely (routes : List Route) (states : ℕ → State) (calls : ℕ → List Call)
    (tape : List Token) (clock : ℕ) : Type 0 where
  pub rises : IsTimed (played_of routes tape)
  pub past : (n : ℕ) (t : Token) → slice_get (played_of routes tape) n ≡ Some t → t.time ≤ clock
  pub awake : (c u : ℕ) → states c ≡ Ready → taped_of routes tape c < made_of routes calls c
      → held_until (last_of routes calls c) ≡ Some u
      → u < clock
  pub over : (c : ℕ) (x : Route) (n : ℕ) (call : Call) (t : Token) (i : ℕ)
      → slice_get routes c ≡ Some x
      → IsOutput x (calls c) n call t → WasHeld x (calls c) n call → slice_get tape i ≡ Some t
      → t.time < clock
  pub later : (c : ℕ) (x : Route) (n : ℕ) (call : Call) (t : Token) (i : ℕ)
      → slice_get routes c ≡ Some x
      → IsOutput x (calls c) n call t → WasHeld x (calls c) n call → slice_get tape i ≡ Some t
      → (j : ℕ) (r : Token) → slice_get tape j ≡ Some r → i < j
      → writes_from 0 routes r.channel ≡ None → t.time < r.time

-- A message is late: it stands on the tape at or behind the played one that comes after so many.
pub record IsLate (routes : List Route) (after : ℕ) (tape : List Token) (m : Token) : Type 0 where
  pub place : ℕ
  pub there : slice_get tape place ≡ Some m
  pub late : after < length (played_of routes (take (place + 1) tape))

-- A call has a late message in its tuple.
pub record HasLate (routes : List Route) (after : ℕ) (tape : List Token) (call : Call)
    : Type 0 where
  pub place : ℕ
  pub message : Token
  pub there : slice_get (messages_of call.tuple) place ≡ Some message
  pub late : IsLate routes after tape message

-- Whether it is a phase between the look for the stop and the fetch.
abbrev pub is_asking : Phase → Bool
is_asking Checked = true
is_asking Asked = true
is_asking _ = false

-- Obedient: a stop is raised only where one is given. Before it is raised no more messages are
-- played than it says; and then the component that it names has at most one call with a late
-- message, and none yet where it is held in phase Checked or Asked.
pub record Obedient (routes : List Route) (stop : Option Stop) (raised : Bool)
    (hands : ℕ → Option Hand) (calls : ℕ → List Call) (tape : List Token) : Type 0 where
  pub given : raised ≡ true → stop ≢ None
  pub few : (s : Stop) → stop ≡ Some s → raised ≡ false → length (played_of routes tape) ≤ s.after
  pub one : (s : Stop) → stop ≡ Some s → raised ≡ true → s.component < length routes
      → (m n : ℕ) (x y : Call) → slice_get (calls s.component) m ≡ Some x
      → slice_get (calls s.component) n ≡ Some y
      → HasLate routes s.after tape x → HasLate routes s.after tape y → m ≡ n
  pub none_yet : (s : Stop) → stop ≡ Some s → raised ≡ true → (p n : ℕ) (f : Phase) (x : Call)
      → hands p ≡ hand s.component f → is_asking f ≡ true
      → slice_get (calls s.component) n ≡ Some x → HasLate routes s.after tape x → ⊥

pub record Sound (w : Plain) : Type 0 where
  pub consistent : Consistent w
  pub wakes : Wakes w.hands w.states w.spent (found_by w) w.news w.clearing
  pub timely : Timely w.routes w.states w.calls w.tape w.clock
  pub obedient : Obedient w.routes w.stop w.raised w.hands w.calls w.tape
