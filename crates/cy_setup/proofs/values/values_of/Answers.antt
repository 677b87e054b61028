use Rattle.std.specs.List.{flat_map}
use Rattle.std.proofs.Common.{List, ◌++◌, ap, ◌∙◌}
use Rattle.std.proofs.lemmas.List.{take_all}
use Rattle.cy_dag.specs.declared.config.Config.{Config}
use Rattle.cy_value.specs.declared.values.ChannelValue.{ChannelValue}
use Rattle.cy_setup.proofs.ValuesFound.{found_more}
use Rattle.cy_setup.proofs.values.values_of.Goals as goal

pub loop-config-preserved : goal.loop-config-preserved
loop-config-preserved c =
    found_more (λ (k : Config). k.options.values) c.args.configs.now c.loop-config.config-index c.config-item.result c.loop-config.values.items _ c.loop-config-test.true c.config-item.is c.loop-config.invariant
    (c.in_ok-push_values.ensures.values ∙ ap (λ (vs : List ChannelValue). c.loop-config.values.items ++ vs) c.as_slice.ensures)

pub returns-clause-values : goal.returns-clause-values
returns-clause-values c = c.loop-config.invariant ∙ ap (flat_map (λ (k : Config). k.options.values)) (take_all c.loop-config.config-index c.args.configs.now c.loop-config-test.false)
