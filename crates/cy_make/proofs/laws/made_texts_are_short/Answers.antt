use Rattle.cy_make.proofs.Short.{short}
use Rattle.cy_make.proofs.laws.made_texts_are_short.Goals as goal

pub returns : goal.returns
returns c = short
