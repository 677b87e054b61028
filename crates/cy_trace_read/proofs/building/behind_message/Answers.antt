use Rattle.cy_trace_read.proofs.Order.{at_taped}
use Rattle.cy_trace_read.proofs.building.behind_message.Goals as goal

pub returns-in_default : goal.returns-in_default
returns-in_default c = at_taped c.args.prefix c.args.tape c.args.line c.in_default.not-Tape
