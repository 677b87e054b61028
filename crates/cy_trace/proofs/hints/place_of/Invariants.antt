use Rattle.std.proofs.Common.{length}
use Rattle.cy_trace.proofs.hints.place_of.Given as goal

abbrev pub decreases-loop-word : goal.decreases-loop-word
decreases-loop-word l = length l.rest
