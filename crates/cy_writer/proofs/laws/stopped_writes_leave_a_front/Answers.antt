use Rattle.cy_writer.proofs.Stopped.{failed_leaves, starved_leaves}
use Rattle.cy_writer.proofs.laws.stopped_writes_leave_a_front.Goals as goal

pub returns-clause-failed : goal.returns-clause-failed
returns-clause-failed c = failed_leaves

pub returns-clause-starved : goal.returns-clause-starved
returns-clause-starved c = starved_leaves
