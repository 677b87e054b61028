-- What the trace of a lawful run tells: the whole run, where it is known what was played.
use Rattle.std.specs.Prelude.{ℕ, ◌≡◌, ◌<◌, List, length, Option}
use Rattle.cy_msg.specs.Once.{IsOnce}
use Rattle.cy_msg.specs.declared.stop.Stop.{Stop}
use Rattle.cy_msg.specs.declared.token.Token.{Token}
use Rattle.cy_comp.specs.declared.plan.Plan.{Plan}
use Rattle.wake_core.specs.LawfulRun.{LawfulRun}
use Rattle.wake_core.specs.Plain.{Plain}
use Rattle.wake_core.specs.Rest.{run_shown}
use Rattle.wake_core.specs.Run.{routes_of}
use Rattle.cy_trace_text.specs.Laws.{AreTyped, IsOf}
use Rattle.cy_trace.specs.TraceForm.{IsShort}
use Rattle.cy_trace.specs.TraceOfRun.{trace_of_run}
use Rattle.cy_trace_text.specs.TraceText.{trace_text}

-- Two worlds have come to the same: at each component the same messages arrived and the same calls
-- were made, its next fetch begins at one place and it stands in one state; and the same messages
-- were sent.
pub record CameToSame (w v : Plain) : Type 0 where
  pub arrivals : (c : ℕ) → c < length w.routes → v.arrivals c ≡ w.arrivals c
  pub calls : (c : ℕ) → c < length w.routes → v.calls c ≡ w.calls c
  pub cursors : (c : ℕ) → c < length w.routes → v.cursors c ≡ w.cursors c
  pub states : (c : ℕ) → c < length w.routes → v.states c ≡ w.states c
  pub tape : v.tape ≡ w.tape

-- Two worlds are what lawful runs of one list of messages over one wiring, with one stop or none,
-- have come to, and no two channels have one name.
pub record AreRuns (names : List (List ℕ)) (plans : List Plan) (tokens : List Token)
    (stop : Option Stop) (w v : Plain) : Type 0 where
  pub once : IsOnce names
  pub made : IsOf names plans w
  pub other_made : IsOf names plans v
  pub run : LawfulRun tokens (routes_of plans) stop w
  pub other_run : LawfulRun tokens (routes_of plans) stop v

-- The trace of a lawful run tells the run: another lawful run with that trace has come to the same.
-- A trace names a message by its channel and its number, and tells no content; what was played and
-- the classes of the components tell the rest.
abbrev pub TracesTellRuns : Type 0
TracesTellRuns = (names : List (List ℕ)) (plans : List Plan) (shadowed : ℕ) (tokens : List Token)
    (stop : Option Stop) (w v : Plain) → AreRuns names plans tokens stop w v
    → trace_of_run names plans shadowed (run_shown w)
    ≡ trace_of_run names plans shadowed (run_shown v) → CameToSame w v

-- So does its text.
abbrev pub TextsTellRuns : Type 0
TextsTellRuns = (names : List (List ℕ)) (plans : List Plan) (shadowed : ℕ) (tokens : List Token)
    (stop : Option Stop) (w v : Plain) → AreRuns names plans tokens stop w v
    → AreTyped names plans w → AreTyped names plans v → IsShort shadowed
    → trace_text names plans shadowed (run_shown w) ≡ trace_text names plans shadowed (run_shown v)
    → CameToSame w v
