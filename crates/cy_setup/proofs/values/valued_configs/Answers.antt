use Rattle.std.proofs.Common.{List, ap, sym, ◌∙◌}
use Rattle.std.specs.Vec.Iter.{into_iter_items}
use Rattle.cy_value.specs.declared.values.ChannelValue.{ChannelValue}
use Rattle.cy_wiring.specs.Given.{values_of}
use Rattle.cy_setup.specs.Values.{valued_config}
use Rattle.cy_setup.proofs.ValuesFound.{first_valued, next_valued, all_valued}
use Rattle.cy_setup.proofs.values.valued_configs.Goals as goal

pub loop-config-init : goal.loop-config-init
loop-config-init c = first_valued (values_of c.args.configs.items) c.args.configs.items _ _ c.in_ok-valued.ensures.items c.into_iter-config-iterator.ensures.into_iter_gives.0

pub loop-config-preserved : goal.loop-config-preserved
loop-config-preserved c =
    next_valued (values_of c.args.configs.items) c.args.configs.items _ _ c.loop-config.valued.items _ c.in-Some.config c.in_ok-valued_config.field-0 c.in-Some.ensures.steps.0
    (c.in_ok-valued_config.ensures.config ∙ ap (λ (vs : List ChannelValue). valued_config vs c.in-Some.config) (c.deref-in-loop-config.ensures.value ∙ c.in_ok-values.ensures.values ∙ ap values_of c.deref.ensures.value)) c.in_ok-push.ensures.items c.loop-config.invariant

pub returns-clause-valued : goal.returns-clause-valued
returns-clause-valued c = all_valued (values_of c.args.configs.items) c.args.configs.items _ _ (sym c.loop-config.config-iterator.rest.ok.0 ∙ c.in-None.ensures.steps.0) c.loop-config.invariant
