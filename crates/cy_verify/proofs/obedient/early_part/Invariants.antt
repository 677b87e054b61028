use Rattle.wake_core.specs.Run.{routes_of}
use Rattle.cy_verify.proofs.EarlyTape.{IsCounted}
use Rattle.cy_verify.proofs.obedient.early_part.Given as goal

abbrev pub invariant-loop-place : goal.invariant-loop-place
invariant-loop-place l = IsCounted (routes_of l.plans) l.after l.tape l.place l.played
