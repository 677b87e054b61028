use Rattle.std.proofs.Common.{arith}
use Rattle.wake_core.specs.Planned.{planned}
use Rattle.wake_core.proofs.entries.planned.Goals as goal

pub returns : goal.returns
unfolding planned
returns c = omega (arith, c.planned_arrivals.ensures.sum, c.planned_calls.ensures.sum, c.planned_messages.ensures.sum)
