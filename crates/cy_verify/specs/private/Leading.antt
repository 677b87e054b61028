-- What a lawful run shows of a component that is followed along its trace.
use Rattle.std.specs.Prelude.{ℕ, ◌+◌, ◌≡◌, ◌≤◌, ◌<◌, Bool, true, false, List}
use Rattle.std.specs.Prelude.{length, map, take, slice_get, Some, None}
use Rattle.cy_msg.specs.declared.token.Token.{Token}
use Rattle.cy_msg.specs.Tokens.{on_channel, IsNumbered}
use Rattle.cy_fuse.specs.Fusion.{Arrival, fused}
use Rattle.cy_fuse.specs.Fetch.{fetch}
use Rattle.cy_comp.specs.declared.call.Call.{Call}
use Rattle.cy_comp.specs.Calls.{cursor_after, tail_after, last_outcome, is_last, outs}
use Rattle.wake_core.specs.declared.route.Route.{Route}
use Rattle.wake_core.specs.Plain.{of_role}
use Rattle.cy_trace.specs.TraceOfRun.{trace_calls}
use Rattle.cy_trace.specs.declared.trace.TraceComponent.{TraceComponent}
use Rattle.cy_verify.specs.declared.follower.Follower.{Follower}
use Rattle.cy_verify.specs.private.Following.{IsLawful}

-- A run that has come to its end, as far as one component is concerned: what came to it, which
-- calls it made, and the whole tape.
pub record Ended : Type 0 where
  pub arrivals : List Arrival
  pub calls : List Call
  pub tape : List Token

-- It is a lawful run of a component, and this is what the trace tells of the component.
pub record IsRun (x : Route) (told : TraceComponent) (stopped : Bool) (r : Ended) : Type 0 where
  pub lawful : IsLawful x r.arrivals r.calls r.tape
  pub whole : (j channel : ℕ) → slice_get x.readers j ≡ Some channel
      → of_role j r.arrivals ≡ on_channel channel r.tape
  pub known : (n : ℕ) (a : Arrival) → slice_get r.arrivals n ≡ Some a → a.0 < length x.readers
  pub numbered : IsNumbered r.tape
  pub sent : on_channel x.out r.tape ≡ outs x.out r.calls
  pub roles_told : map (λ (a : Arrival). a.0) r.arrivals ≡ told.roles
  pub calls_told : trace_calls 0 r.calls ≡ told.calls
  pub next : told.next ≡ cursor_after r.calls
  pub finished : told.finished ≡ true → stopped ≡ false
      → is_last (last_outcome x.kind r.calls) ≡ true
  pub ended : is_last (last_outcome x.kind r.calls) ≡ true → told.finished ≡ true
  pub waits : told.finished ≡ false → fetch (cursor_after r.calls)
      (length (fused r.arrivals (length x.readers))) x.queue x.overflow ≡ None

-- A component was followed along a beginning of the tape of a run: what came and was called so far
-- is a beginning of what came and was called there, no more came than was needed for these calls,
-- and the rest still has room.
pub record Leads (x : Route) (told : TraceComponent) (stopped : Bool) (r : Ended) (f : Follower)
    (tape : List Token) : Type 0 where
  pub run : IsRun x told stopped r
  pub begins : tape ≡ take (length tape) r.tape
  pub came : f.visitor.arrivals ≡ take (length f.visitor.arrivals) r.arrivals
  pub made : f.routine.calls ≡ take (length f.routine.calls) r.calls
  pub tails : length (fused f.visitor.arrivals (length x.readers)) ≤ tail_after f.routine.calls
  pub room : length r.arrivals ≤ length f.visitor.arrivals + f.visitor.spare

-- A message is the next one on the tape that comes to a reader, and has room.
pub record IsDue (x : Route) (role : ℕ) (t : Token) (f : Follower) (tape : List Token) : Type 0
  where
    pub reads : slice_get x.readers role ≡ Some t.channel
    pub stands : slice_get (on_channel t.channel tape) (length (of_role role f.visitor.arrivals))
        ≡ Some t
    pub room : 1 ≤ f.visitor.spare

-- The n-th arrival of all stands on the tape, as the one of its reader's channel that it is.
pub record IsHere (x : Route) (arrivals : List Arrival) (tape : List Token) (n : ℕ) (a : Arrival)
    : Type 0 where
  pub reads : slice_get x.readers a.0 ≡ Some a.1.channel
  pub stands : slice_get (on_channel a.1.channel tape) (length (of_role a.0 (take n arrivals)))
      ≡ Some a.1

-- All arrivals that come before so many tuples are fused stand on the tape.
abbrev pub AreHere : Route → List Arrival → List Token → ℕ → Type 0
AreHere x arrivals tape tail = (n : ℕ) (a : Arrival) → slice_get arrivals n ≡ Some a
    → length (fused (take n arrivals) (length x.readers)) < tail → IsHere x arrivals tape n a

-- What came is a beginning of all arrivals, which are told and have room.
pub record Awaits (x : Route) (roles : List ℕ) (arrivals : List Arrival) (f : Follower) : Type 0
  where
    pub came : f.visitor.arrivals ≡ take (length f.visitor.arrivals) arrivals
    pub roles_told : map (λ (a : Arrival). a.0) arrivals ≡ roles
    pub room : length arrivals ≤ length f.visitor.arrivals + f.visitor.spare

-- .. and up to the one with which so many tuples are fused they stand on the tape.
pub record AwaitsTo (x : Route) (roles : List ℕ) (arrivals : List Arrival) (tail : ℕ)
    (f : Follower) (tape : List Token) : Type 0 where
  pub awaits : Awaits x roles arrivals f
  pub here : AreHere x arrivals tape tail
  pub begun : length (fused f.visitor.arrivals (length x.readers)) ≤ tail
  pub reached : tail ≤ length (fused arrivals (length x.readers))

-- The next call of a run can be made: so many arrivals stand on the tape as it needs.
pub record CanCall (x : Route) (r : Ended) (f : Follower) (tape : List Token) : Type 0 where
  pub call : Call
  pub next : slice_get r.calls (length f.routine.calls) ≡ Some call
  pub here : AreHere x r.arrivals tape call.tail

-- The next message of the tape of a run is one of this component.
pub record PutsOut (x : Route) (r : Ended) (tape : List Token) (t : Token) : Type 0 where
  pub next : slice_get r.tape (length tape) ≡ Some t
  pub its : t.channel ≡ x.out
