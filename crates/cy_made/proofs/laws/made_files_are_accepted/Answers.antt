use Rattle.cy_made.proofs.AllAccepted.{accepted}
use Rattle.cy_made.proofs.laws.made_files_are_accepted.Goals as goal

pub returns : goal.returns
returns c = accepted
