-- What is known of a walk that may be along the trace of a lawful run.
use Rattle.std.specs.Prelude.{◌≡◌, length, map}
use Rattle.cy_trace.specs.TraceOfRun.{tape_entry}
use Rattle.cy_trace.specs.declared.trace.Trace.{Trace}
use Rattle.cy_verify.specs.Verdict.{Task}
use Rattle.cy_verify.specs.declared.walk.Walk.{Walk}
use Rattle.cy_verify.specs.private.Allowing.{IsAllowed}
use Rattle.cy_verify.specs.private.Walking.{HasWalked}

-- A trace was followed to its end: the tape is the one that it tells of, all was played, outputs
-- were held back long enough, and the stop was obeyed.
pub record IsFollowed (t : Task) (trace : Trace) (w : Walk) : Type 0 where
  pub walked : HasWalked t trace.components w
  pub told : map (tape_entry t.names) w.tape.items ≡ trace.tape
  pub played : w.played ≡ length t.tokens
  pub allowed : IsAllowed t.plans t.stop w
