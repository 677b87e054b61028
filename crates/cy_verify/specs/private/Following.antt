-- A component that is followed along its trace.
use Rattle.std.specs.Prelude.{ℕ, ◌+◌, ◌-◌, ◌≡◌, ◌≤◌, ◌<◌, Bool, true, false, not, ◌||◌, ◌&&◌}
use Rattle.std.specs.Prelude.{if◌then◌else◌, List, [], ◌∷◌, ◌++◌, length, map, max, min, take}
use Rattle.std.specs.Prelude.{Some, None, is_some, slice_get, slice_index}
use Rattle.cy_msg.specs.declared.token.Token.{Token}
use Rattle.cy_msg.specs.declared.token.Tuple.{Tuple}
use Rattle.cy_msg.specs.Tuple.{messages_of}
use Rattle.cy_msg.specs.Tokens.{on_channel}
use Rattle.cy_fuse.specs.Fusion.{Arrival, fused}
use Rattle.cy_fuse.specs.Fetch.{fetch}
use Rattle.cy_fuse.specs.Visitor.{position_at}
use Rattle.cy_comp.specs.declared.call.Call.{Call}
use Rattle.cy_comp.specs.declared.state.State.TheVariants.{DataWait, Finished}
use Rattle.cy_comp.specs.Kind.{messages_needed}
use Rattle.cy_comp.specs.Calls.{LawfulCalls, cursor_after, last_outcome, is_last, outs}
use Rattle.wake_core.specs.declared.route.Route.{Route}
use Rattle.wake_core.specs.declared.entries.TheConstants.{MOST_PLANNED}
use Rattle.wake_core.specs.Planned.{first_reader}
use Rattle.wake_core.specs.Plain.{of_role}
use Rattle.wake_core.specs.Sound.{IsOutput, StandsOn}
use Rattle.cy_trace.specs.TraceOfRun.{trace_calls}
use Rattle.cy_trace.specs.declared.trace.TraceComponent.{TraceComponent}
use Rattle.cy_verify.specs.declared.follower.Follower.{Follower}

-- A component's visitor and routine are of its kind, and what a fetch finds is what its queue says,
-- as long as no more tuples come than `most`.
pub record IsOf (x : Route) (most : ℕ) (f : Follower) : Type 0 where
  pub kind : f.routine.kind ≡ x.kind
  pub roles : f.visitor.roles ≡ length x.readers
  pub overflow : f.visitor.overflow ≡ x.overflow
  pub queue : f.visitor.queue ≡ max 1 (min x.queue most)
  pub calls : most ≤ length f.routine.calls + f.routine.spare

-- What of a visitor and a routine stays whatever comes and is called: what they are of, and how
-- much there is and can still come, together.
pub record Stays (f g : Follower) : Type 0 where
  pub kind : g.routine.kind ≡ f.routine.kind
  pub roles : g.visitor.roles ≡ f.visitor.roles
  pub overflow : g.visitor.overflow ≡ f.visitor.overflow
  pub queue : g.visitor.queue ≡ f.visitor.queue
  pub arrivals : length g.visitor.arrivals + g.visitor.spare
      ≡ length f.visitor.arrivals + f.visitor.spare
  pub calls : length g.routine.calls + g.routine.spare ≡ length f.routine.calls + f.routine.spare

-- What a component with these readers needs so that it may be followed along a tape.
pub record MayFollow (x : Route) (f : Follower) (tape : List Token) : Type 0 where
  pub most : ℕ
  pub its : IsOf x most f
  pub few : length (on_channel (first_reader x) tape) ≤ most
  pub limited : most ≤ MOST_PLANNED
  pub some_reader : 1 ≤ length x.readers
  pub few_readers : length x.readers ≤ 4
  pub needed : messages_needed x.kind ≤ length x.readers
  pub buffered : 1 ≤ x.queue

-- What came to each reader is what the part of the tape that was searched for it has of its
-- channel; and nothing else came.
pub record IsSearched (x : Route) (arrivals : List Arrival) (searched : List ℕ)
    (tape : List Token) : Type 0 where
  pub four : length searched ≡ 4
  pub within : (j : ℕ) → slice_index searched j ≤ length tape
  pub heard : (j channel : ℕ) → slice_get x.readers j ≡ Some channel
      → of_role j arrivals ≡ on_channel channel (take (slice_index searched j) tape)
  pub roles : (n : ℕ) (a : Arrival) → slice_get arrivals n ≡ Some a → a.0 < length x.readers

-- The calls of a component are lawful for what came to it; before each of its outputs on the tape
-- stands each message of each tuple that was fused when the call was made, and the tuple of each
-- call is one of these.
pub record IsLawful (x : Route) (arrivals : List Arrival) (calls : List Call) (tape : List Token)
    : Type 0 where
  pub lawful : LawfulCalls x.kind arrivals (length x.readers) x.queue x.overflow calls
  pub before : (n : ℕ) (call : Call) (t : Token) (i : ℕ) → IsOutput x calls n call t
      → slice_get tape i ≡ Some t → (k : ℕ) (tuple : Tuple) → k < call.tail
      → slice_get (fused arrivals (length x.readers)) k ≡ Some tuple
      → (j : ℕ) (m : Token) → slice_get (messages_of tuple) j ≡ Some m → StandsOn (take i tape) m
  pub own : (n : ℕ) (call : Call) → slice_get calls n ≡ Some call
      → slice_get (take call.tail (fused arrivals (length x.readers))) (call.position - 1)
      ≡ Some call.tuple

-- The first of the roles and calls that are told are those of what came and was called.
abbrev pub AreTold : TraceComponent → Follower → Type 0
AreTold told f = (map (λ (a : Arrival). a.0) f.visitor.arrivals
    ≡ take (length f.visitor.arrivals) told.roles)
    × (trace_calls 0 f.routine.calls ≡ take (length f.routine.calls) told.calls)

-- A component was followed along a tape: all its outputs stand there.
pub record Follows (x : Route) (told : TraceComponent) (f : Follower) (tape : List Token) : Type 0
  where
    pub searched : IsSearched x f.visitor.arrivals f.searched tape
    pub lawful : IsLawful x f.visitor.arrivals f.routine.calls tape
    pub are_told : AreTold told f
    pub ended : f.ended ≡ is_last (last_outcome x.kind f.routine.calls)
    pub outputs : f.outputs ≡ length (outs x.out f.routine.calls)
    pub sent : on_channel x.out tape ≡ outs x.out f.routine.calls
    pub none_waits : f.routine.pending ≡ None

-- .. and was called once more: the output of that call, if it has one, doesn't stand there yet.
pub record HasCalled (x : Route) (told : TraceComponent) (f : Follower) (tape : List Token)
    : Type 0 where
  pub earlier : List Call
  pub call : Call
  pub made : f.routine.calls ≡ earlier ++ call ∷ []
  pub searched : IsSearched x f.visitor.arrivals f.searched tape
  pub lawful : IsLawful x f.visitor.arrivals f.routine.calls tape
  pub are_told : AreTold told f
  pub ended : f.ended ≡ is_last (last_outcome x.kind f.routine.calls)
  pub outputs : f.outputs ≡ length (outs x.out earlier)
  pub few : f.outputs < 4294967295
  pub sent : on_channel x.out tape ≡ outs x.out earlier
  pub waits : f.routine.pending ≡ call.out

-- An arrival more that is told.
pub record Hears (x : Route) (role : ℕ) (tape : List Token) (f g : Follower) : Type 0 where
  pub token : Token
  pub known : role < length x.readers
  pub came : g.visitor.arrivals ≡ f.visitor.arrivals ++ (role, token) ∷ []
  pub same : g.routine ≡ f.routine
  pub outputs : g.outputs ≡ f.outputs
  pub ended : g.ended ≡ f.ended
  pub searched : IsSearched x g.visitor.arrivals g.searched tape

-- Arrivals more that are told, after which there are so many tuples.
pub record Listens (x : Route) (roles : List ℕ) (tape : List Token) (f g : Follower) : Type 0 where
  pub same : g.routine ≡ f.routine
  pub outputs : g.outputs ≡ f.outputs
  pub ended : g.ended ≡ f.ended
  pub searched : IsSearched x g.visitor.arrivals g.searched tape
  pub lawful : IsLawful x g.visitor.arrivals g.routine.calls tape
  pub told : map (λ (a : Arrival). a.0) g.visitor.arrivals
      ≡ take (length g.visitor.arrivals) roles

-- The next message of a channel on a tape, behind a part that was searched.
pub record IsNextOn (channel from : ℕ) (tape : List Token) (place : ℕ) : Type 0 where
  pub token : Token
  pub at : slice_get tape place ≡ Some token
  pub its : token.channel ≡ channel
  pub searched : on_channel channel (take (place + 1) tape)
      ≡ on_channel channel (take from tape) ++ token ∷ []

-- An output is sent: with it on the tape, all of them stand there.
pub record Sends (x : Route) (told : TraceComponent) (f : Follower) (tape : List Token) (t : Token)
    : Type 0 where
  pub its : t.channel ≡ x.out
  pub number : t.seq ≡ length (on_channel x.out tape) + 1
  pub few : length f.routine.calls ≤ length (on_channel (first_reader x) tape)
  pub follows : Follows x told f (tape ++ t ∷ [])

-- A component was followed to its end, where a stop names it or none does: all that is told came
-- and was called, all that the tape has for it came, and it may have ended as is told.
pub record HasEnded (x : Route) (told : TraceComponent) (stopped : Bool) (f : Follower)
    (tape : List Token) : Type 0 where
  pub follows : Follows x told f tape
  pub roles : map (λ (a : Arrival). a.0) f.visitor.arrivals ≡ told.roles
  pub calls : trace_calls 0 f.routine.calls ≡ told.calls
  pub whole : (j channel : ℕ) → slice_get x.readers j ≡ Some channel
      → of_role j f.visitor.arrivals ≡ on_channel channel tape
  pub state : f.routine.state ≡ (if told.finished then Finished else DataWait)
  pub finished : told.finished ≡ true → stopped ≡ false → f.ended ≡ true
  pub waits : told.finished ≡ false → f.ended ≡ false
  pub found : told.finished ≡ false
      → fetch (cursor_after f.routine.calls)
      (length (fused f.visitor.arrivals (length x.readers))) x.queue x.overflow ≡ None
  pub next : told.next ≡ cursor_after f.routine.calls

-- Whether it may have ended as is told, where a stop names it or none does: FINISHED after its last
-- outcome, or where it is stopped; and else waiting, where a fetch finds nothing.
abbrev pub ends_as : (finished stopped : Bool) → Follower → Bool
ends_as finished stopped f =
    if finished then f.ended || stopped
    else not f.ended && not (is_some (position_at (cursor_after f.routine.calls) f.visitor))
