use Rattle.cy_trace_read.proofs.Order.{at_titled}
use Rattle.cy_trace_read.proofs.building.behind_title.Goals as goal

pub returns-in_default : goal.returns-in_default
returns-in_default c = at_titled c.args.version c.args.line c.in_default.not-Played
