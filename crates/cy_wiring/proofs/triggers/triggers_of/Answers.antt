use Rattle.std.proofs.Common.{map, ap, ◌∙◌}
use Rattle.std.proofs.lemmas.List.{take_all}
use Rattle.cy_wiring.specs.Triggers.{trigger_of}
use Rattle.cy_config.proofs.Loops.{pushed_more}
use Rattle.cy_wiring.proofs.triggers.triggers_of.Goals as goal

pub loop-component-preserved : goal.loop-component-preserved
loop-component-preserved c =
    pushed_more (trigger_of c.args.configs.now) c.args.components.now c.loop-component.component-index c.component-item.result c.loop-component.triggers.items c.push.new.self.items _
    c.loop-component-test.true c.component-item.is c.loop-component.invariant c.trigger_of.ensures c.in_ok-push.ensures.items

pub returns : goal.returns
returns c = c.loop-component.invariant ∙ ap (map (trigger_of c.args.configs.now)) (take_all c.loop-component.component-index c.args.components.now c.loop-component-test.false)
