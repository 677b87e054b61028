-- One swap behind another.
use Rattle.std.proofs.Common.{rules, refl, ◌∙◌}
use Rattle.cy_table.proofs.Marking.{since_still, since_on}
use Rattle.cy_table.proofs.table.FlagTable.enter_at_last.Goals as goal

pub loop-init : goal.loop-init
loop-init g c = (search rules, search rules, refl, refl, refl, since_still _)

pub loop-preserved : goal.loop-preserved
loop-preserved g c = let i = c.loop.invariant in (search rules, search rules, search rules, search rules, c.in_default.ensures.shut ∙ i.4, since_on _ _ _ _ _ i.5 c.enter.ensures.noted)

pub returns-in-Some-enter-clause-noted : goal.returns-in-Some-enter-clause-noted
returns-in-Some-enter-clause-noted g c = since_on _ _ _ _ _ c.loop.invariant.5 c.enter.ensures.noted
