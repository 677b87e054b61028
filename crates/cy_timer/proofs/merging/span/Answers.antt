use Rattle.cy_timer.proofs.AllPlayed.{span-is}
use Rattle.cy_timer.proofs.merging.span.Goals as goal

pub returns : goal.returns
returns c = span-is c.args.messages.now c.in_ok-first.first.now c.in_ok-last.last.now c.in_ok-first.ensures.value c.in_ok-last.ensures.value
