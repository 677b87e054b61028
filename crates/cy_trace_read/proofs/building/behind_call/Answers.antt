use Rattle.cy_trace_read.proofs.Order.{at_called}
use Rattle.cy_trace_read.proofs.building.behind_call.Goals as goal

pub returns-in_default : goal.returns-in_default
returns-in_default c = at_called c.args.prefix c.args.name c.args.overflow c.args.roles c.args.calls c.args.line c.in_default.not-Call c.in_default.not-End
