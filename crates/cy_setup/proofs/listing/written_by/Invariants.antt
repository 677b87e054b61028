use Rattle.std.proofs.Common.{◌≡◌, map, take}
use Rattle.cy_setup.proofs.listing.written_by.Given as goal

abbrev pub invariant-loop-plan : goal.invariant-loop-plan
invariant-loop-plan l = l.numbers.items ≡ map (λ p. p.out) (take l.plan-index l.plans)
