use Rattle.cy_read_back.proofs.BrokenOff.{broken_off}
use Rattle.cy_read_back.proofs.laws.broken_off_are_fronts.Goals as goal

pub returns : goal.returns
returns c = broken_off
