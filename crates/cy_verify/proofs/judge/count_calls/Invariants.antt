use Rattle.cy_verify.proofs.CallTotal.{TotalSoFar}
use Rattle.cy_verify.proofs.judge.count_calls.Given as goal

abbrev pub invariant-loop-component : goal.invariant-loop-component
invariant-loop-component l = TotalSoFar l.followers l.component l.count
