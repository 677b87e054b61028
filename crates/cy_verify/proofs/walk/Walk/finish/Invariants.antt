use Rattle.cy_verify.specs.private.Walking.{task_in}
use Rattle.cy_verify.proofs.WalkEnded.{IsLedTo}
use Rattle.cy_verify.proofs.walk.Walk.finish.Given as goal

abbrev pub invariant-loop-component : goal.invariant-loop-component
invariant-loop-component l = IsLedTo (task_in l.wiring l.list l.fn.self) l.trace.components l.fn.self l.component l.self
