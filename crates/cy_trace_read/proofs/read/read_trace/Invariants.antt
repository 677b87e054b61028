use Rattle.std.proofs.Common.{length}
use Rattle.cy_trace_read.proofs.Prefixes.{Reached}
use Rattle.cy_trace_read.proofs.read.read_trace.Given as goal

abbrev pub invariant-loop-rest : goal.invariant-loop-rest
invariant-loop-rest l = Reached l.bytes l.rest l.building l.line

abbrev pub decreases-loop-rest : goal.decreases-loop-rest
decreases-loop-rest l = length l.rest
