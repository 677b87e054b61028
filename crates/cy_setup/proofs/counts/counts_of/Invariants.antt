use Rattle.cy_setup.proofs.Counting.{CountSoFar}
use Rattle.cy_setup.proofs.counts.counts_of.Given as goal

abbrev pub invariant-loop-token : goal.invariant-loop-token
invariant-loop-token l = CountSoFar l.channels l.token-index l.tokens l.counts.items
