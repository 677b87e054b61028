use Rattle.cy_trace_text.proofs.Keeping.{zero_kept}
use Rattle.cy_trace_text.proofs.numeral.Numeral.zero.Goals as goal

pub invariant_of-result : goal.invariant_of-result
invariant_of-result c = record { kept = zero_kept c.from.result c.from.ensures }
