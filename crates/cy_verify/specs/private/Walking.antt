-- How far a trace was followed.
use Rattle.std.specs.Prelude.{ℕ, ◌+◌, ◌≡◌, ◌≤◌, ◌<◌, ◌==◌, Bool, true, false, List, [], ◌∷◌, ◌++◌}
use Rattle.std.specs.Prelude.{length, take, map, sum, Option, Some, None, slice_get, replicate}
use Rattle.std.specs.Prelude.{vec_capacity}
use Rattle.cy_msg.specs.declared.stop.Stop.{Stop}
use Rattle.cy_msg.specs.declared.play_list.PlayList.{PlayList}
use Rattle.cy_msg.specs.declared.token.Token.{Token}
use Rattle.cy_msg.specs.Tokens.{on_channel, IsNumbered}
use Rattle.cy_comp.specs.declared.wiring.Wiring.{Wiring}
use Rattle.wake_core.specs.declared.route.Route.{Route}
use Rattle.wake_core.specs.Fields.{IsFixed}
use Rattle.wake_core.specs.Planned.{counts_from, first_reader, planned_count}
use Rattle.wake_core.specs.Run.{played_of, routes_of}
use Rattle.wake_core.specs.Sound.{IsWired}
use Rattle.wake_core.specs.WorldOf.{IsMade, counts_in, stop_in}
use Rattle.cy_trace.specs.TraceOfRun.{tape_entry}
use Rattle.cy_trace.specs.declared.trace.TapeEntry.{TapeEntry}
use Rattle.cy_trace.specs.declared.trace.TraceComponent.{TraceComponent}
use Rattle.cy_verify.specs.Verdict.{Task}
use Rattle.cy_verify.specs.declared.follower.Follower.{Follower}
use Rattle.cy_verify.specs.declared.walk.Walk.{Walk}
use Rattle.cy_verify.specs.private.Following.{IsOf, Follows, HasEnded}

-- What a walk is to judge: a play list over the components of a wiring, with the numbers of
-- messages and the stop that it was made with.
abbrev pub task_in : Wiring → PlayList → Walk → Task
task_in wiring list w = record {
  names = wiring.names;
  plans = wiring.plans;
  counts = counts_in w.fixed;
  tokens = list.tokens;
  shadowed = list.shadowed;
  stop = stop_in w.fixed;
}

-- There is a follower for each component, of its kind, with room for all that can come.
pub record AreOf (t : Task) (followers : List Follower) : Type 0 where
  pub many : length followers ≡ length (routes_of t.plans)
  pub each : (c : ℕ) (x : Route) (f : Follower) → slice_get (routes_of t.plans) c ≡ Some x
      → slice_get followers c ≡ Some f
      → IsOf x (planned_count (routes_of t.plans) t.counts (first_reader x)) f
  pub roomy : (c : ℕ) (x : Route) (f : Follower) → slice_get (routes_of t.plans) c ≡ Some x
      → slice_get followers c ≡ Some f
      → sum (map (planned_count (routes_of t.plans) t.counts) x.readers)
      ≤ length f.visitor.arrivals + f.visitor.spare

-- Each component was followed along a tape.
abbrev pub AreFollowed : Task → List TraceComponent → List Follower → List Token → Type 0
AreFollowed t told followers tape = (c : ℕ) (x : Route) (component : TraceComponent) (f : Follower)
    → slice_get (routes_of t.plans) c ≡ Some x → slice_get told c ≡ Some component
    → slice_get followers c ≡ Some f → Follows x component f tape

-- A tape has so many of the messages that are to be played, in their order, and no more of a
-- channel than are planned.
pub record IsTaped (t : Task) (played : ℕ) (tape : List Token) : Type 0 where
  pub numbered : IsNumbered tape
  pub its : played_of (routes_of t.plans) tape ≡ take played t.tokens
  pub few : played ≤ length t.tokens
  pub room : (channel : ℕ) → length (on_channel channel tape)
      ≤ planned_count (routes_of t.plans) t.counts channel
  pub channels : (n : ℕ) (m : Token) → slice_get tape n ≡ Some m → m.channel < length t.counts

-- What is known of the components of a task.
pub record IsKnown (t : Task) : Type 0 where
  pub wired : IsWired (routes_of t.plans) t.counts
  pub its : IsFixed (routes_of t.plans) t.counts

-- A trace was followed so far.
pub record IsWalked (t : Task) (told : List TraceComponent) (w : Walk) : Type 0 where
  pub known : IsKnown t
  pub are_of : AreOf t w.followers.items
  pub followed : AreFollowed t told w.followers.items w.tape.items
  pub taped : IsTaped t w.played w.tape.items
  pub spent : w.spent ≡ replicate (length (routes_of t.plans)) true
  pub roomy : counts_from (routes_of t.plans) t.counts 0 (length t.counts) ≤ vec_capacity w.tape

-- A message came onto the tape, as an entry tells.
pub record Puts (names : List (List ℕ)) (entry : TapeEntry) (v w : Walk) : Type 0 where
  pub token : Token
  pub put : w.tape.items ≡ v.tape.items ++ token ∷ []
  pub told : tape_entry names token ≡ entry

-- Whether a stop names a component.
abbrev pub names_it : Option Stop → ℕ → Bool
names_it None c = false
names_it (Some s) c = s.component == c

-- Nothing came to a component, and it was not called.
pub record IsFresh (f : Follower) : Type 0 where
  pub searched : f.searched ≡ 0 ∷ 0 ∷ 0 ∷ 0 ∷ []
  pub outputs : f.outputs ≡ 0
  pub ended : f.ended ≡ false
  pub arrivals : f.visitor.arrivals ≡ []
  pub calls : f.routine.calls ≡ []
  pub pending : f.routine.pending ≡ None

-- Nothing was followed yet.
pub record IsOpening (t : Task) (w : Walk) : Type 0 where
  pub made : IsMade (routes_of t.plans) t.counts t.stop w.fixed
  pub its : IsFixed (routes_of t.plans) t.counts
  pub are_of : AreOf t w.followers.items
  pub fresh : (c : ℕ) (f : Follower) → slice_get w.followers.items c ≡ Some f → IsFresh f
  pub tape : w.tape.items ≡ []
  pub played : w.played ≡ 0
  pub spent : w.spent ≡ replicate (length (routes_of t.plans)) true
  pub roomy : counts_from (routes_of t.plans) t.counts 0 (length t.counts) ≤ vec_capacity w.tape

-- Each component was followed to its end.
pub record HasWalked (t : Task) (told : List TraceComponent) (w : Walk) : Type 0 where
  pub known : IsKnown t
  pub are_of : AreOf t w.followers.items
  pub ended : (c : ℕ) (x : Route) (component : TraceComponent) (f : Follower)
      → slice_get (routes_of t.plans) c ≡ Some x → slice_get told c ≡ Some component
      → slice_get w.followers.items c ≡ Some f
      → HasEnded x component (names_it t.stop c) f w.tape.items
  pub taped : IsTaped t w.played w.tape.items
  pub spent : w.spent ≡ replicate (length (routes_of t.plans)) true
  pub roomy : counts_from (routes_of t.plans) t.counts 0 (length t.counts) ≤ vec_capacity w.tape
