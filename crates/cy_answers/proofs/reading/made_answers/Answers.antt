use Rattle.std.proofs.Common.{rules}
use Rattle.cy_answers.proofs.Answering.{none_made}
use Rattle.cy_answers.proofs.reading.made_answers.Goals as goal

pub loop-place-init : goal.loop-place-init
loop-place-init c = rw c.in_ok-answers.ensures.items (none_made c.args.recorded.now c.args.name.now c.args.first)
