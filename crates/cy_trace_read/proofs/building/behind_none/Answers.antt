use Rattle.cy_trace_read.proofs.Order.{at_start}
use Rattle.cy_trace_read.proofs.building.behind_none.Goals as goal

pub returns-in_default : goal.returns-in_default
returns-in_default c = at_start c.args.line c.in_default.not-Title
