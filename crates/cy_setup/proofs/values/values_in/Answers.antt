use Rattle.std.specs.List.{flat_map}
use Rattle.std.proofs.Common.{List, ◌++◌, ap, ◌∙◌}
use Rattle.std.proofs.lemmas.List.{take_all}
use Rattle.cy_comp.specs.declared.plan.Plan.{Plan}
use Rattle.cy_value.specs.declared.values.ChannelValue.{ChannelValue}
use Rattle.cy_setup.proofs.ValuesFound.{found_more}
use Rattle.cy_setup.proofs.values.values_in.Goals as goal

pub loop-plan-preserved : goal.loop-plan-preserved
loop-plan-preserved c =
    found_more (λ (k : Plan). k.options.values) c.args.plans.now c.loop-plan.plan-index c.plan-item.result c.loop-plan.values.items _ c.loop-plan-test.true c.plan-item.is c.loop-plan.invariant
    (c.in_ok-push_values.ensures.values ∙ ap (λ (vs : List ChannelValue). c.loop-plan.values.items ++ vs) c.as_slice.ensures)

pub returns-clause-values : goal.returns-clause-values
returns-clause-values c = c.loop-plan.invariant ∙ ap (flat_map (λ (k : Plan). k.options.values)) (take_all c.loop-plan.plan-index c.args.plans.now c.loop-plan-test.false)
