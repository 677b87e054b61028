use Rattle.cy_timer.proofs.InOrder.{in_order}
use Rattle.cy_timer.proofs.laws.time_order_is_stable.Goals as goal

pub returns : goal.returns
returns c = in_order
