use Rattle.cy_wiring.proofs.TriggerSteps.{ticks_found}
use Rattle.cy_wiring.proofs.triggers.test_ticks.Goals as goal

pub returns-in-Some-clause-refused : goal.returns-in-Some-clause-refused
returns-in-Some-clause-refused c =
    ticks_found c.args.components.now c.args.configs.now c.loop-component.component c.in-Some.timer c.timer_written.result c.loop-component-test.true c.loop-component.invariant c.timer_written.ensures c.in-Some.is
