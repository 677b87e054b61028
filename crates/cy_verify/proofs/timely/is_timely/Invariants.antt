use Rattle.cy_verify.proofs.Apart.{IsAt}
use Rattle.cy_verify.proofs.timely.is_timely.Given as goal

abbrev pub invariant-loop-place : goal.invariant-loop-place
invariant-loop-place l = IsAt l.plans l.tape l.place l.held
