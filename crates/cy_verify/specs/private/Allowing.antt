-- What is asked of a walk that was followed to its end.
use Rattle.std.specs.Prelude.{ℕ, ◌≡◌, ◌≤◌, ◌<◌, List, length, Option, Some, slice_get}
use Rattle.cy_msg.specs.Tokens.{IsNumbered}
use Rattle.cy_msg.specs.declared.stop.Stop.{Stop}
use Rattle.cy_comp.specs.declared.plan.Plan.{Plan}
use Rattle.wake_core.specs.Run.{routes_of}
use Rattle.cy_trace.specs.TraceOfRun.{trace_calls}
use Rattle.cy_trace.specs.declared.trace.TraceComponent.{TraceComponent}
use Rattle.cy_verify.specs.declared.follower.Follower.{Follower}
use Rattle.cy_verify.specs.declared.walk.Walk.{Walk}
use Rattle.cy_verify.specs.private.Passes.{IsApart, HasOneLate, TakesFrom}

-- The messages of the tape are numbered, there is a follower for each component, whose calls took
-- messages of the tape and are told, and a stop names a component.
pub record MayAsk (plans : List Plan) (told : List TraceComponent) (stop : Option Stop)
    (walk : Walk) : Type 0 where
  pub numbered : IsNumbered walk.tape.items
  pub many : length walk.followers.items ≡ length plans
  pub few : (c : ℕ) (p : Plan) → slice_get plans c ≡ Some p → length p.readers ≤ 4
  pub takes : (c : ℕ) (p : Plan) (f : Follower) → slice_get plans c ≡ Some p
      → slice_get walk.followers.items c ≡ Some f
      → TakesFrom p.readers f.routine.calls walk.tape.items
  pub all_told : length told ≡ length plans
  pub calls_told : (c : ℕ) (f : Follower) (k : TraceComponent)
      → slice_get walk.followers.items c ≡ Some f → slice_get told c ≡ Some k
      → trace_calls 0 f.routine.calls ≡ k.calls
  pub known : (s : Stop) → stop ≡ Some s → s.component < length plans

-- The component that a stop names has at most one call with a late message.
abbrev pub IsObedient : List Plan → Option Stop → Walk → Type 0
IsObedient plans stop walk = (s : Stop) (f : Follower) → stop ≡ Some s
    → slice_get walk.followers.items s.component ≡ Some f
    → HasOneLate (routes_of plans) s.after f.routine.calls walk.tape.items

-- .. and each played message behind an output that was held back has a later time.
pub record IsAllowed (plans : List Plan) (stop : Option Stop) (walk : Walk) : Type 0 where
  pub apart : IsApart plans walk.tape.items
  pub obedient : IsObedient plans stop walk
