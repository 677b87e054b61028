-- What is said of a trace.
use Rattle.std.specs.Prelude.{ℕ, ◌≡◌, ◌≤◌, List, length, Option, Result, Ok}
use Rattle.cy_msg.specs.declared.token.Token.{Token}
use Rattle.cy_msg.specs.declared.stop.Stop.{Stop}
use Rattle.cy_comp.specs.declared.plan.Plan.{Plan}
use Rattle.wake_core.specs.declared.entries.TheConstants.{MOST_PLANNED}
use Rattle.wake_core.specs.Fields.{IsWithin}
use Rattle.wake_core.specs.LawfulRun.{LawfulRun}
use Rattle.wake_core.specs.Plain.{Plain, opening_world}
use Rattle.wake_core.specs.Planned.{planned}
use Rattle.wake_core.specs.Rest.{IsToPlay, run_shown}
use Rattle.wake_core.specs.Run.{routes_of}
use Rattle.cy_trace.specs.CallCount.{calls_from}
use Rattle.cy_trace.specs.TraceOfRun.{trace_of_run}
use Rattle.cy_trace.specs.declared.trace.Trace.{Trace}
use Rattle.cy_verify.specs.declared.error.VerifyError.{VerifyError}
use Rattle.cy_verify.specs.declared.verdict.Told.{Told}
use Rattle.cy_verify.specs.declared.verdict.Verdict.{Verdict}
use Rattle.cy_verify.specs.declared.verdict.Verdict.TheVariants.{Lawful, Unlawful}

-- What a run was to be: the names of the channels and the components over them, how many messages
-- are played on each channel, the messages, how many were shadowed beside them, and the stop, if
-- there is one.
pub record Task : Type 0 where
  pub names : List (List ℕ)
  pub plans : List Plan
  pub counts : List ℕ
  pub tokens : List Token
  pub shadowed : ℕ
  pub stop : Option Stop

-- A run of it can be judged: there is a count for each channel, which are those of the messages;
-- these stand on channels that no component writes; no more entries are planned than a world keeps;
-- and a stop names a component and is raised within what is played.
pub record MayJudge (t : Task) : Type 0 where
  pub many : length t.counts ≡ length t.names
  pub made : IsToPlay (opening_world (routes_of t.plans) t.counts t.stop) t.tokens
  pub limited : planned (routes_of t.plans) t.counts ≤ MOST_PLANNED
  pub within : IsWithin (routes_of t.plans) t.counts t.stop

-- A world is what a lawful run of it has come to, and this is the trace of that run.
pub record IsTold (t : Task) (trace : Trace) (w : Plain) : Type 0 where
  pub counts : w.counts ≡ t.counts
  pub lawful : LawfulRun t.tokens (routes_of t.plans) t.stop w
  pub told : trace ≡ trace_of_run t.names t.plans t.shadowed (run_shown w)

-- A lawful run of it has this trace, with this tape and so many calls.
pub record IsOfRun (t : Task) (trace : Trace) (told : Told) : Type 0 where
  pub world : Plain
  pub is_told : IsTold t trace world
  pub tape : told.tape ≡ world.tape
  pub calls : told.calls ≡ calls_from (run_shown world) 0 t.plans

-- What judging a trace answers: the tape and the calls of a lawful run that has it, or that none
-- has it.
pub record Judges (t : Task) (trace : Trace) (result : Result Verdict VerifyError) : Type 0 where
  pub lawful : (told : Told) → result ≡ Ok (Lawful told) → IsOfRun t trace told
  pub unlawful : (w : Plain) → result ≡ Ok Unlawful → IsTold t trace w → ⊥
