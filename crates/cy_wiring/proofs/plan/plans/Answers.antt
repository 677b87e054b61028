use Rattle.cy_wiring.proofs.PairSteps.{plans_step}
use Rattle.cy_wiring.proofs.plan.plans.Goals as goal

pub loop-place-preserved : goal.loop-place-preserved
loop-place-preserved c =
    plans_step c.args.names.now c.args.components.now c.args.configs.now c.loop-place.place c.index-components-place.result c.index-configs-place.result c.in_ok-plan.field-0 c.loop-place.plans.items
    c.push.new.self.items c.loop-place-test.true c.requires.each c.index-components-place.is c.index-configs-place.is c.loop-place.invariant c.in_ok-plan.ensures c.in_ok-push.ensures.items
