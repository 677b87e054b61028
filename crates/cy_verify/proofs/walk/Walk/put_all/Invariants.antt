use Rattle.cy_verify.proofs.WalkLed.{IsPutLed}
use Rattle.cy_verify.proofs.walk.Walk.put_all.Given as goal

abbrev pub invariant-loop-place : goal.invariant-loop-place
invariant-loop-place l = IsPutLed l.wiring l.list l.trace l.fn.self l.place l.self
