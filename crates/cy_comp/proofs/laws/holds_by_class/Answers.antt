use Rattle.cy_comp.proofs.Holding.{held_holds, holds_held}
use Rattle.cy_comp.proofs.laws.holds_by_class.Goals as goal

pub returns : goal.returns
returns c = λ k earlier tuple. (held_holds k earlier tuple, holds_held k earlier tuple)
