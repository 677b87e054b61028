-- What a component's routine keeps.
use Rattle.std.specs.Prelude.{ℕ, ◌-◌, ◌≡◌, ◌≤◌, ◌<◌, ◌^◌, List, [], ◌∷◌, ◌++◌, length, Option}
use Rattle.std.specs.Prelude.{None}
use Rattle.cy_msg.specs.declared.token.Tuple.{Tuple}
use Rattle.cy_msg.specs.Tuple.{messages_of}
use Rattle.cy_comp.specs.declared.kind.Kind.{Kind}
use Rattle.cy_comp.specs.declared.state.State.{State}
use Rattle.cy_comp.specs.declared.state.State.TheVariants as state
use Rattle.cy_comp.specs.declared.call.Call.{Call}
use Rattle.cy_comp.specs.declared.call.Out.{Out}
use Rattle.cy_comp.specs.declared.call.Outcome.{Outcome}
use Rattle.cy_comp.specs.Kind.{messages_needed}
use Rattle.cy_comp.specs.Step.{outcome_after, out_of}
use Rattle.cy_comp.specs.Calls.{tuples_of}

-- A routine: its component's class, its state, its calls, the output that waits to be sent, and for
-- how many more calls it has room.
pub record RoutineView : Type 0 where
  pub kind : Kind
  pub state : State
  pub calls : List Call
  pub pending : Option Out
  pub spare : ℕ

-- Before the first call: it is to be resumed.
abbrev pub new_routine : Kind → ℕ → RoutineView
new_routine k spare = record {
  kind = k;
  state = state.Ready;
  calls = [];
  pending = None;
  spare = spare;
}

-- What the component answers to a tuple, after its calls so far.
abbrev pub answer_to : RoutineView → Tuple → Outcome
answer_to r tuple = outcome_after r.kind (tuples_of r.calls) tuple

-- A tuple may be taken at a position: no output waits, there is room for one more call, the
-- cursor's index fits, and the tuple has as many messages as the class reads.
pub record MayTake (r : RoutineView) (tuple : Tuple) (position : ℕ) : Type 0 where
  pub none_waits : r.pending ≡ None
  pub room : 1 ≤ r.spare
  pub in_range : position < 2 ^ 64 - 1
  pub needed : messages_needed r.kind ≤ length (messages_of tuple)

-- After a call on a tuple: the call is kept, and its output waits to be sent.
abbrev pub taken : RoutineView → Tuple → (position tail : ℕ) → RoutineView
taken r tuple position tail =
    let out = out_of (answer_to r tuple) in
    record r {
      calls = r.calls ++ record { position = position; tail = tail; tuple = tuple; out = out } ∷ [];
      pending = out;
      spare = r.spare - 1;
    }
