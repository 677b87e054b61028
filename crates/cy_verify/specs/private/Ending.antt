-- What a walk that was followed to its end comes to.
use Rattle.std.specs.Prelude.{ℕ, ◌+◌, ◌≡◌, ◌≤◌, ◌<◌, Bool, true, List, [], ◌∷◌, length, map}
use Rattle.std.specs.Prelude.{slice_get, is_some, Some, None}
use Rattle.cy_msg.specs.declared.token.Token.{Token}
use Rattle.cy_msg.specs.Tokens.{IsTimed}
use Rattle.cy_fuse.specs.Visitor.{VisitorView}
use Rattle.cy_comp.specs.declared.plan.Plan.{Plan}
use Rattle.cy_comp.specs.declared.call.Call.{Call}
use Rattle.cy_comp.specs.Calls.{cursor_after}
use Rattle.cy_comp.specs.Routine.{RoutineView}
use Rattle.wake_core.specs.declared.route.Route.{Route}
use Rattle.wake_core.specs.Fields.{read, no_routine}
use Rattle.wake_core.specs.Plain.{Plain, Ready, Stop, opening_world}
use Rattle.wake_core.specs.Run.{routes_of, writes_from}
use Rattle.wake_core.specs.Serial.{last_clock}
use Rattle.wake_core.specs.Sound.{HasLate, IsOutput, WasHeld}
use Rattle.cy_trace.specs.TraceOfRun.{tape_entry}
use Rattle.cy_trace.specs.LineParts.{version_of}
use Rattle.cy_trace.specs.declared.trace.Trace.{Trace}
use Rattle.cy_trace.specs.declared.trace.TraceComponent.{TraceComponent}
use Rattle.cy_verify.specs.Verdict.{Task, MayJudge}
use Rattle.cy_verify.specs.declared.follower.Follower.{Follower}
use Rattle.cy_verify.specs.declared.walk.Walk.{Walk}
use Rattle.cy_verify.specs.private.Walking.{HasWalked}

-- The visitors and the routines of components that are followed.
abbrev pub visitors_in : List Follower → List VisitorView
visitors_in followers = map (λ (f : Follower). f.visitor) followers

abbrev pub routines_in : List Follower → List RoutineView
routines_in followers = map (λ (f : Follower). f.routine) followers

-- How many calls they made.
abbrev pub call_total : List Follower → ℕ
call_total [] = 0
call_total (f ∷ rest) = length f.routine.calls + call_total rest

-- The calls of each of them.
abbrev pub calls_in : List Follower → ℕ → List Call
calls_in followers c = (read (λ r. r) no_routine (routines_in followers) c).calls

-- The plain world at rest of components that were followed along a tape, in which all was played
-- and the stop was raised, where there is one.
abbrev pub world_at : Task → List Follower → (spent : List Bool) → List Token → Plain
world_at t followers spent tape = record (opening_world (routes_of t.plans) t.counts t.stop) {
  states = read (λ r. r.state) Ready (routines_in followers);
  spent = read (λ b. b) true spent;
  cursors = λ c. cursor_after (calls_in followers c);
  calls = calls_in followers;
  arrivals = read (λ v. v.arrivals) [] (visitors_in followers);
  tape = tape;
  clock = last_clock;
  closing = true;
  raised = is_some t.stop;
}

abbrev pub world_in : Task → Walk → Plain
world_in t w = world_at t w.followers.items w.spent w.tape.items

-- Each played message behind an output that was held back has a later time.
abbrev pub IsHeldOver : List Route → (calls : ℕ → List Call) → (tape : List Token) → Type 0
IsHeldOver routes calls tape = (c : ℕ) (x : Route) (n : ℕ) (call : Call) (m : Token) (i : ℕ)
    → slice_get routes c ≡ Some x
    → IsOutput x (calls c) n call m → WasHeld x (calls c) n call → slice_get tape i ≡ Some m
    → (j : ℕ) (r : Token) → slice_get tape j ≡ Some r → i < j
    → writes_from 0 routes r.channel ≡ None → m.time < r.time

-- The component that a stop names has at most one call with a late message.
abbrev pub IsObeyed : List Route → Stop → (calls : ℕ → List Call) → (tape : List Token) → Type 0
IsObeyed routes s calls tape = (m n : ℕ) (x y : Call) → slice_get (calls s.component) m ≡ Some x
    → slice_get (calls s.component) n ≡ Some y → HasLate routes s.after tape x
    → HasLate routes s.after tape y → m ≡ n

-- All is known of a walk that a lawful run needs: each of as many components as are told was
-- followed to its end, all messages were played, whose times never fall and fit 64 bits; outputs
-- were held back long enough; and the stop was obeyed.
pub record IsWhole (t : Task) (told : List TraceComponent) (w : Walk) : Type 0 where
  pub may : MayJudge t
  pub many : length told ≡ length t.plans
  pub walked : HasWalked t told w
  pub played : w.played ≡ length t.tokens
  pub timed : IsTimed t.tokens
  pub long : (n : ℕ) (m : Token) → slice_get t.tokens n ≡ Some m → m.time ≤ last_clock
  pub later : IsHeldOver (routes_of t.plans) (calls_in w.followers.items) w.tape.items
  pub obeyed : (s : Stop) → t.stop ≡ Some s
      → IsObeyed (routes_of t.plans) s (calls_in w.followers.items) w.tape.items

-- What a trace tells beside its components' roles, calls and ends is what a task and a tape say.
pub record IsHeaded (t : Task) (tape : List Token) (trace : Trace) : Type 0 where
  pub version : trace.version ≡ version_of t.plans
  pub played : trace.played ≡ length t.tokens
  pub shadowed : trace.shadowed ≡ t.shadowed
  pub many : length trace.components ≡ length t.plans
  pub names : (c : ℕ) (p : Plan) (k : TraceComponent) → slice_get t.plans c ≡ Some p
      → slice_get trace.components c ≡ Some k → (k.name ≡ p.name) × (k.overflow ≡ p.overflow)
  pub taped : map (tape_entry t.names) tape ≡ trace.tape
