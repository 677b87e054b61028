use Rattle.cy_writer.proofs.Stopped.{others_stay, others_stay_starved}
use Rattle.cy_writer.proofs.laws.stopped_writes_leave_other_files.Goals as goal

pub returns-clause-failed : goal.returns-clause-failed
returns-clause-failed c = others_stay

pub returns-clause-starved : goal.returns-clause-starved
returns-clause-starved c = others_stay_starved
