use Rattle.cy_read_back.proofs.FrontAccepted.{are_left, are_salvaged}
use Rattle.cy_read_back.proofs.laws.unfinished_are_salvaged.Goals as goal

pub returns : goal.returns
returns c = record { salvaged = are_salvaged; left = are_left }
