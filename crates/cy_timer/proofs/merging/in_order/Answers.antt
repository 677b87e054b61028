use Rattle.cy_timer.specs.private.Left.{left_of}
use Rattle.cy_timer.proofs.Sorting.{smaller}
use Rattle.cy_timer.proofs.merging.in_order.Goals as goal

pub loop-token-smaller : goal.loop-token-smaller
loop-token-smaller c = smaller (left_of c.loop-token.left) (left_of c.take_first.new.self) c.in-Some.token c.in-Some.ensures
