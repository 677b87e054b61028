-- The load of the clock, and what follows it.
use Rattle.std.proofs.Common.{◌≡◌, true, false, sym, ap, ap₂, ◌∙◌}
use Rattle.cy_comp.specs.declared.state.State.{State}
use Rattle.cy_comp.specs.Routine.{RoutineView}
use Rattle.wake_core.specs.Turns.{is_due}
use Rattle.cy_table.specs.declared.pass.Pass.{Pass}
use Rattle.cy_table.specs.declared.hold.Hold.{Hold}
use Rattle.cy_table.specs.Seats.{Seat}
use Rattle.cy_table.specs.Plays.{Thread}
use Rattle.cy_table.specs.Hold.{with_found}
use Rattle.cy_table.specs.Calls.{sight_of, seat_of, component_of, state_of, update_deeds}
use Rattle.cy_table.proofs.Marking.{since_as, since_is, since_on}
use Rattle.cy_table.proofs.Updating.{due_deeds, spent_deeds, state_then, clock_then}
use Rattle.cy_table.proofs.table.FlagTable.update.Goals.{then-due, else-due}
use Rattle.cy_table.proofs.table.FlagTable.update.Goals as goal

pub returns-clause-noted : goal.returns-clause-noted
returns-clause-noted c =
    let seen = c.see_clock-time.ensures.noted in
    let v = c.args.pass.now.seat.me.0.seat in
    let u = c.see_clock-time.new.pass.seat.me.0.seat in
    let h = c.args.hold.now in
    let i = component_of h in
    let thread = c.see_clock-time.ensures.thread in
    let clock = ap (λ (m : Thread). m.0.clock) thread in
    let same : state_of u ≡ state_of v = ap (λ (m : Thread). state_of m.0) thread in
    let state : state_of v ≡ c.state-state.result = ap (λ (x : RoutineView). x.state) (c.requires.holds.routine ∙ ap (with_found h.routine) c.requires.stepped) ∙ sym c.state-state.ensures in
    elim c.if-due.branch [
      | then-due w ↦ let now = ap (λ (p : Pass). (seat_of p).clock) w.pass-is ∙ (ap (λ (s : Seat). s.clock) w.ready.ensures.seat ∙ clock) in
          let due : is_due (state_of v) (seat_of c.if-due.pass).clock ≡ true = ap₂ is_due state now ∙ (sym c.due.ensures ∙ w.if-due.true) in
          since_as _ _ _ _ (due_deeds i (seat_of c.if-due.pass).clock (state_of v) c.state.result due) (since_is _ _ _ _ (since_on _ _ _ _ _ seen w.ready.ensures.noted) (ap sight_of w.pass-is))
      | else-due w ↦ let k = w.wake.new.hold in
          let now = sym (ap (λ (p : Pass). (seat_of p).clock) w.pass-is ∙ (ap (λ (s : Seat). s.clock) w.wake.ensures.seat ∙ clock_then u w.wake.result)) in
          let due : is_due (state_of u) u.clock ≡ false = ap₂ is_due (same ∙ state) clock ∙ (sym c.due.ensures ∙ w.if-due.false) in
          let after = c.state.ensures ∙ (ap (λ (x : Hold). x.routine.state) w.hold-is
          ∙ (sym (ap (λ (x : RoutineView). x.state) (w.wake.ensures.holds.0.routine ∙ ap (with_found k.routine) w.wake.ensures.holds.1)) ∙ (ap state_of w.wake.ensures.seat ∙ state_then u w.wake.result))) in
          let deeds = spent_deeds i u.clock (state_of u) c.state.result w.wake.result due after ∙ ap₂ (λ (s : State) n. update_deeds i s n c.state.result) same now in
          since_as _ _ _ _ deeds (since_is _ _ _ _ (since_on _ _ _ _ _ seen w.wake.ensures.noted) (ap sight_of w.pass-is))
    ]
