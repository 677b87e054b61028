use Rattle.cy_text.proofs.Few.{few}
use Rattle.cy_text.proofs.laws.fields_are_few.Goals as goal

pub returns : goal.returns
returns c = few
