-- What is tested of a whole tape, and what a trace tells of its components.
use Rattle.std.specs.Prelude.{ℕ, ◌≡◌, ◌≤◌, ◌<◌, ◌+◌, ◌==◌, nat_lt, max, Bool, true, false, ◌||◌}
use Rattle.std.specs.Prelude.{List, [], ◌∷◌, length, take, Option, Some, None, option_map}
use Rattle.std.specs.Prelude.{slice_get, slice_index}
use Rattle.std.specs.List.{find}
use Rattle.cy_msg.specs.declared.token.Token.{Token}
use Rattle.cy_msg.specs.Tuple.{messages_of}
use Rattle.cy_comp.specs.declared.call.Call.{Call}
use Rattle.cy_comp.specs.Kind.{holds_outputs}
use Rattle.cy_comp.specs.declared.plan.Plan.{Plan}
use Rattle.wake_core.specs.declared.route.Route.{Route}
use Rattle.wake_core.specs.Run.{played_of}
use Rattle.wake_core.specs.Sound.{StandsOn, HasLate}
use Rattle.cy_trace.specs.LineParts.{version_of}
use Rattle.cy_trace.specs.declared.trace.Trace.{Trace}
use Rattle.cy_trace.specs.declared.trace.TraceComponent.{TraceComponent}

-- Whether the component that writes a channel holds its outputs back, where one writes it.
abbrev pub held_on : List Plan → ℕ → Option Bool
held_on plans channel =
    option_map (λ (p : Plan). holds_outputs p.kind) (find (λ (p : Plan). p.out == channel) plans)

-- The later of a time and that before it, where there was any.
abbrev pub later_of : Option ℕ → ℕ → ℕ
later_of None time = time
later_of (Some before) time = max before time

-- Whether a time is later than the one before it, where there was any.
abbrev pub is_later : ℕ → Option ℕ → Bool
is_later time None = true
is_later time (Some before) = nat_lt before time

-- Whether a message may have a time behind the latest one that was held back: any may that a
-- component puts out.
abbrev pub in_time : Option Bool → (time : ℕ) → Option ℕ → Bool
in_time None time held = is_later time held
in_time (Some holds) time held = true

-- The latest time of what was held back, with one message more.
abbrev pub held_then : Option Bool → (time : ℕ) → Option ℕ → Option ℕ
held_then None time held = held
held_then (Some false) time held = held
held_then (Some true) time held = Some (later_of held time)

-- Each message on a channel that no component writes has a later time than each message that stands
-- before it on the channel of a component that holds its outputs back.
abbrev pub IsApart : List Plan → List Token → Type 0
IsApart plans tape = (i j : ℕ) (t r : Token) → slice_get tape i ≡ Some t → slice_get tape j ≡ Some r
    → i < j → held_on plans t.channel ≡ Some true → held_on plans r.channel ≡ None
    → t.time < r.time

-- So much of a tape stands before the played message that comes after so many: up to each place in
-- it no more are played, and up to each place behind it more are.
pub record IsEarly (routes : List Route) (after : ℕ) (tape : List Token) (early : ℕ) : Type 0 where
  pub within : early ≤ length tape
  pub few : (i : ℕ) → i < early → length (played_of routes (take (i + 1) tape)) ≤ after
  pub more : (i : ℕ) → early ≤ i → i < length tape
      → after < length (played_of routes (take (i + 1) tape))

-- Whether one of these messages, which come to the readers from one on, has a greater number than
-- there are early ones at its reader.
abbrev pub late_from : (reader : ℕ) → List Token → (before : List ℕ) → Bool
late_from reader [] before = false
late_from reader (m ∷ rest) before =
    nat_lt (slice_index before reader) m.seq || late_from (reader + 1) rest before

-- The same of the numbers of messages.
abbrev pub late_seqs : (reader : ℕ) → List ℕ → (before : List ℕ) → Bool
late_seqs reader [] before = false
late_seqs reader (n ∷ rest) before =
    nat_lt (slice_index before reader) n || late_seqs (reader + 1) rest before

-- Each message that a call took came from a tape, to the reader of its channel.
pub record TakesFrom (readers : List ℕ) (calls : List Call) (tape : List Token) : Type 0 where
  pub reads : (n j : ℕ) (x : Call) (m : Token) → slice_get calls n ≡ Some x
      → slice_get (messages_of x.tuple) j ≡ Some m → slice_get readers j ≡ Some m.channel
  pub stands : (n j : ℕ) (x : Call) (m : Token) → slice_get calls n ≡ Some x
      → slice_get (messages_of x.tuple) j ≡ Some m → StandsOn tape m

-- No two calls have a late message.
abbrev pub HasOneLate : List Route → (after : ℕ) → List Call → List Token → Type 0
HasOneLate routes after calls tape = (m n : ℕ) (x y : Call) → slice_get calls m ≡ Some x
    → slice_get calls n ≡ Some y → HasLate routes after tape x → HasLate routes after tape y
    → m ≡ n

-- A component is told of by its name and its overflow.
pub record IsNamed (p : Plan) (told : TraceComponent) : Type 0 where
  pub name : told.name ≡ p.name
  pub overflow : told.overflow ≡ p.overflow

-- These components are told of, each in its turn.
pub record AreNamed (plans : List Plan) (told : List TraceComponent) : Type 0 where
  pub many : length told ≡ length plans
  pub each : (c : ℕ) (p : Plan) (t : TraceComponent) → slice_get plans c ≡ Some p
      → slice_get told c ≡ Some t → IsNamed p t

-- A trace is one of these components, in the version that is due, and of so many messages that were
-- played and shadowed.
pub record IsHeaded (plans : List Plan) (plays shadows : ℕ) (trace : Trace) : Type 0 where
  pub version : trace.version ≡ version_of plans
  pub played : trace.played ≡ plays
  pub shadowed : trace.shadowed ≡ shadows
  pub components : AreNamed plans trace.components
