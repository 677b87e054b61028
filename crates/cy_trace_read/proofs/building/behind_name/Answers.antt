use Rattle.cy_trace_read.proofs.Order.{at_named}
use Rattle.cy_trace_read.proofs.building.behind_name.Goals as goal

pub returns-in_default : goal.returns-in_default
returns-in_default c = at_named c.args.prefix c.args.name c.args.overflow c.args.line c.in_default.not-Roles
