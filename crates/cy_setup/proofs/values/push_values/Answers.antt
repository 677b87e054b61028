use Rattle.std.proofs.Common.{ap, ◌∙◌, ◌++◌, List}
use Rattle.std.proofs.lemmas.List.{take_all}
use Rattle.cy_setup.proofs.ValuesFound.{behind_more}
use Rattle.cy_setup.proofs.values.push_values.Goals as goal

pub loop-value-preserved : goal.loop-value-preserved
loop-value-preserved c =
    behind_more c.args.to.now.items c.args.values.now c.loop-value.value-index c.value-item.result c.in_ok-copy.field-0 c.loop-value.to.items _ c.loop-value-test.true c.value-item.is c.loop-value.invariant
    c.in_ok-copy.ensures.copy c.in_ok-push.ensures.items
