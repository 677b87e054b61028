use Rattle.cy_setup.proofs.PassWired.{pass_is_wired}
use Rattle.cy_setup.proofs.passing.pass_is_wired.Goals as goal

pub returns : goal.returns
returns c = pass_is_wired
