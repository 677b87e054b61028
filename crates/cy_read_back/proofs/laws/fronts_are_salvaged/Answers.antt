use Rattle.cy_read_back.proofs.CutMessages.{front_salvaged}
use Rattle.cy_read_back.proofs.laws.fronts_are_salvaged.Goals as goal

pub returns : goal.returns
returns c = front_salvaged
