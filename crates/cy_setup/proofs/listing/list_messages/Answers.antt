use Rattle.std.proofs.Common.{ap, ◌∙◌}
use Rattle.cy_setup.specs.Values.{values_in}
use Rattle.cy_setup.proofs.Setting.{listed_judged, listed_refused}
use Rattle.cy_setup.proofs.listing.list_messages.Goals as goal

pub returns-in-Ok-clause-judged : goal.returns-in-Ok-clause-judged
returns-in-Ok-clause-judged c =
    listed_judged c.args.name.now c.args.recorded.now c.args.wiring.now.names c.args.filter.now _ _ _ _ c.in-Ok.list c.in_ok-written.ensures
    (c.deref.ensures.value ∙ c.in_ok-values.ensures.values ∙ ap values_in c.as_slice.ensures) c.in-Ok.ensures

pub returns-clause-judged : goal.returns-clause-judged
returns-clause-judged c =
    listed_refused c.args.name.now c.args.recorded.now c.args.wiring.now.names c.args.filter.now _ _ _ _ c.in-Err.fault c.record_fault.result c.in_ok-written.ensures
    (c.deref.ensures.value ∙ c.in_ok-values.ensures.values ∙ ap values_in c.as_slice.ensures) (rw c.in-Err.is at c.play_list.ensures.refused) c.record_fault.ensures
