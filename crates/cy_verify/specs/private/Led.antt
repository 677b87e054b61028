-- What a lawful run shows of a walk along its trace.
use Rattle.std.specs.Prelude.{ℕ, ◌≡◌, ◌≤◌, List, length, take, Some, slice_get, vec_capacity}
use Rattle.cy_msg.specs.declared.token.Token.{Token}
use Rattle.wake_core.specs.declared.route.Route.{Route}
use Rattle.wake_core.specs.LawfulRun.{LawfulRun}
use Rattle.wake_core.specs.Plain.{Plain}
use Rattle.wake_core.specs.Run.{routes_of}
use Rattle.cy_trace.specs.declared.trace.TraceComponent.{TraceComponent}
use Rattle.cy_verify.specs.Verdict.{Task}
use Rattle.cy_verify.specs.declared.follower.Follower.{Follower}
use Rattle.cy_verify.specs.declared.walk.Walk.{Walk}
use Rattle.cy_verify.specs.private.Leading.{Ended, Leads}
use Rattle.cy_verify.specs.private.Walking.{names_it}

-- What a world shows of a component.
abbrev pub ended_in : Plain → ℕ → Ended
ended_in w c = record { arrivals = w.arrivals c; calls = w.calls c; tape = w.tape }

-- The run that a world shows leads each component along a beginning of its tape.
abbrev pub AreLed : Task → Plain → List TraceComponent → List Follower → List Token → Type 0
AreLed t w told followers tape = (c : ℕ) (x : Route) (component : TraceComponent) (f : Follower)
    → slice_get (routes_of t.plans) c ≡ Some x → slice_get told c ≡ Some component
    → slice_get followers c ≡ Some f → Leads x component (names_it t.stop c) (ended_in w c) f tape

-- A world is what a lawful run of the task has come to, a beginning of whose tape was followed; and
-- there is room for the rest.
pub record IsLed (t : Task) (told : List TraceComponent) (w : Plain) (walk : Walk) : Type 0 where
  pub counts : w.counts ≡ t.counts
  pub lawful : LawfulRun t.tokens (routes_of t.plans) t.stop w
  pub led : AreLed t w told walk.followers.items walk.tape.items
  pub begins : walk.tape.items ≡ take (length walk.tape.items) w.tape
  pub room : length w.tape ≤ vec_capacity walk.tape

-- A message is the next one on the tape of a run.
abbrev pub IsNext : Plain → Walk → Token → Type 0
IsNext w walk token = slice_get w.tape (length walk.tape.items) ≡ Some token

-- Each component made the calls that it made in a run.
abbrev pub HaveCalled : Plain → List Follower → Type 0
HaveCalled w followers = (c : ℕ) (f : Follower) → slice_get followers c ≡ Some f
    → f.routine.calls ≡ w.calls c
