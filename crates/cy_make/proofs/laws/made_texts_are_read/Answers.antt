use Rattle.cy_make.proofs.TextRead.{texts_read}
use Rattle.cy_make.proofs.laws.made_texts_are_read.Goals as goal

pub returns : goal.returns
returns c = texts_read
