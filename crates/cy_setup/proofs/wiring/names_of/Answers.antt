use Rattle.std.proofs.Common.{map, ap, ◌∙◌}
use Rattle.std.proofs.lemmas.List.{take_all}
use Rattle.cy_dag.specs.declared.dag.DagComponent.{DagComponent}
use Rattle.cy_config.proofs.Loops.{pushed_more}
use Rattle.cy_setup.proofs.wiring.names_of.Goals as goal

pub loop-component-preserved : goal.loop-component-preserved
loop-component-preserved c =
    pushed_more (λ (k : DagComponent). k.name) c.args.components.now c.loop-component.component-index c.component-item.result c.loop-component.names.items c.push.new.self.items c.in_ok-new.field-0
    c.loop-component-test.true c.component-item.is c.loop-component.invariant (c.in_ok-new.ensures.copy ∙ c.as_str.ensures.value) c.in_ok-push.ensures.items

pub returns : goal.returns
returns c = c.loop-component.invariant ∙ ap (map (λ (k : DagComponent). k.name)) (take_all c.loop-component.component-index c.args.components.now c.loop-component-test.false)
