use Rattle.cy_commands.proofs.AskedShort.{short}
use Rattle.cy_commands.proofs.laws.asked_texts_are_short.Goals as goal

pub returns : goal.returns
returns c = short c.made_texts_are_short.ensures
