use Rattle.cy_trace_read.proofs.LineLaws.{line_back, line_spelled}
use Rattle.cy_trace_read.proofs.laws.lines_read_back.Goals as goal

pub returns-clause-back : goal.returns-clause-back
returns-clause-back c = line_back

pub returns-clause-spelled : goal.returns-clause-spelled
returns-clause-spelled c = line_spelled
