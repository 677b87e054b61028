use Rattle.cy_comp.proofs.Rising.{positions_rise}
use Rattle.cy_comp.proofs.laws.positions_rise.Goals as goal

pub returns : goal.returns
returns c = positions_rise c.fetches_find.ensures.find
