-- The swap of a flag, and the store of READY where it woke the croutine.
use Rattle.std.proofs.Common.{◌&&◌, not, sym, ap, ◌∙◌}
use Rattle.cy_comp.specs.declared.state.State.{State}
use Rattle.cy_comp.specs.Routine.{RoutineView}
use Rattle.wake_core.specs.Events.{is_waiting}
use Rattle.cy_table.specs.Hold.{with_found}
use Rattle.cy_table.specs.Calls.{component_of, spend_deeds}
use Rattle.cy_table.proofs.Marking.{since_as, since_on}
use Rattle.cy_table.proofs.table.FlagTable.wake.Goals as goal

pub returns-then-wakes-clause-noted : goal.returns-then-wakes-clause-noted
returns-then-wakes-clause-noted c =
    let v = c.args.pass.now.seat.me.0.seat in
    let h = c.args.hold.now in
    let state = ap (λ (x : RoutineView). x.state) (c.requires.holds.routine ∙ ap (with_found h.routine) c.requires.stepped) ∙ sym c.state-state.ensures in
    let woken = ap (λ (s : State). is_waiting s && not c.spend-was_spent.result) state ∙ (sym c.wakes.ensures ∙ c.if-wakes.true) in
    since_as _ _ _ _ (ap (λ b. spend_deeds (component_of h) v.clock b) (sym woken)) (since_on _ _ _ _ _ c.spend-was_spent.ensures.noted c.ready.ensures.noted)

pub returns-else-wakes-clause-noted : goal.returns-else-wakes-clause-noted
returns-else-wakes-clause-noted c =
    let v = c.args.pass.now.seat.me.0.seat in
    let h = c.args.hold.now in
    let state = ap (λ (x : RoutineView). x.state) (c.requires.holds.routine ∙ ap (with_found h.routine) c.requires.stepped) ∙ sym c.state-state.ensures in
    let woken = ap (λ (s : State). is_waiting s && not c.spend-was_spent.result) state ∙ (sym c.wakes.ensures ∙ c.if-wakes.false) in
    since_as _ _ _ _ (ap (λ b. spend_deeds (component_of h) v.clock b) (sym woken)) c.spend-was_spent.ensures.noted
