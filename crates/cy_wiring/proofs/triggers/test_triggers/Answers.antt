use Rattle.cy_wiring.proofs.TriggerSteps.{cycle_found}
use Rattle.cy_wiring.proofs.triggers.test_triggers.Goals as goal

pub returns-in-Some-clause-refused : goal.returns-in-Some-clause-refused
returns-in-Some-clause-refused c =
    cycle_found c.args.triggers.now c.loop-component.component c.in-Some.steps c.way_back.result c.new.result c.in_ok-met.field-0.items c.loop-component-test.true c.loop-component.invariant
    c.way_back.ensures.way c.in-Some.is c.in_ok-met.ensures c.new.ensures
