use Rattle.cy_make.proofs.Leaving.{leaves}
use Rattle.cy_make.proofs.laws.input_writes_leave_the_inputs.Goals as goal

pub returns : goal.returns
returns c = leaves
