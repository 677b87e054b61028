use Rattle.cy_wiring.proofs.TriggerSteps.{writers_found}
use Rattle.cy_wiring.proofs.triggers.test_writers.Goals as goal

pub returns-in-Some-clause-refused : goal.returns-in-Some-clause-refused
returns-in-Some-clause-refused c =
    writers_found c.args.configs.now c.loop-second.second c.in-Some.first c.earlier_writer.result c.loop-second-test.true c.loop-second.invariant c.earlier_writer.ensures c.in-Some.is
