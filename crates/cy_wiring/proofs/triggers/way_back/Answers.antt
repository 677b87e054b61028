use Rattle.std.proofs.Common.{sym}
use Rattle.cy_wiring.proofs.TriggerSteps.{came_back}
use Rattle.cy_wiring.proofs.triggers.way_back.Goals as goal

pub returns-then-is_at-clause-way : goal.returns-then-is_at-clause-way
returns-then-is_at-clause-way c =
    sym (came_back c.args.triggers.now c.args.start c.loop-step.step c.loop-step.at c.next-at.result c.is_at.result c.loop-step-test.true c.loop-step.invariant.away
    c.loop-step.invariant.here c.next-at.ensures c.is_at.ensures c.if-is_at.true)
