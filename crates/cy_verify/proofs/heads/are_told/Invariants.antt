use Rattle.cy_verify.proofs.Named.{AreNamedTo}
use Rattle.cy_verify.proofs.heads.are_told.Given as goal

abbrev pub invariant-loop-component : goal.invariant-loop-component
invariant-loop-component l = AreNamedTo l.plans l.told l.component
