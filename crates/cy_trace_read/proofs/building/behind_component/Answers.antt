use Rattle.cy_trace_read.proofs.Order.{at_between}
use Rattle.cy_trace_read.proofs.building.behind_component.Goals as goal

pub returns-in_default : goal.returns-in_default
returns-in_default c = at_between c.args.prefix c.args.line c.in_default.not-Component c.in_default.not-Tape
