use Rattle.cy_trace_read.proofs.Prefixes.{one_bad, not_bad}
use Rattle.cy_trace_read.proofs.laws.first_bad_is_one.Goals as goal

pub returns-clause-one : goal.returns-clause-one
returns-clause-one c = one_bad

pub returns-clause-good : goal.returns-clause-good
returns-clause-good c = λ text n bad found. not_bad text n bad found.0 found.1 found.2
