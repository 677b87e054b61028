use Rattle.std.proofs.Common.{◌≡◌, map, take}
use Rattle.cy_sched.proofs.placing.numbers.Given as goal

abbrev pub invariant-loop-rank : goal.invariant-loop-rank
invariant-loop-rank l = l.numbers.items ≡ map (λ r. r.1) (take l.rank-index l.ranks)
