use Rattle.cy_verify.proofs.EndLed.{awaits_rest, rest_here, calls_here, came_all, next_told, ends}
use Rattle.std.proofs.Common.{◌≡◌, Bool, true, false, refl, sym, ◌∙◌, ap}
use Rattle.cy_comp.specs.declared.state.State.{State}
use Rattle.cy_comp.specs.Routine.{RoutineView}
use Rattle.wake_core.specs.Run.{route_of}
use Rattle.cy_verify.proofs.Heard.{may_further}
use Rattle.cy_verify.proofs.EndTold.{has_ended_as}
use Rattle.cy_verify.proofs.follower.Follower.finish.Goals as goal
use Rattle.cy_verify.proofs.follower.Follower.finish.Goals.{then-not-has_heard_all-via-then-not-has_heard_all, then-not-has_heard_all-via-else-not-has_heard_all+then-next-told}

wrong : {b : Bool} → b ≡ true → b ≡ false → ⊥
wrong e n = cc

pub returns-clause-ended : goal.returns-clause-ended
returns-clause-ended c = λ _.
    has_ended_as c.fetches_find.ensures.find (route_of c.args.plan.now) c.args.told.now c.args.is_stopped c.args.tape.now c.call_rest.new.self c.hear_rest.new.self
    (may_further c.requires.may c.call_rest.ensures.stays) (c.if-not-call_rest.ensures.follows refl) c.hear_rest.ensures.stays
    (rw (← c.as_slice.ensures) (c.if-not-hear_rest.ensures.listens refl))
    (c.if-not-call_rest.ensures.all refl) (rw (← c.as_slice.ensures) (c.if-not-hear_rest.ensures.all refl)) (c.if-not-has_heard_all.ensures.all refl) (sym c.cursor.ensures ∙ sym c.next.ensures ∙ c.if-next-told.false) (sym c.if-not-may_end.ensures) c.yielded.new.self
    (c.yielded.ensures ∙ ap (λ (s : State). record c.hear_rest.new.self.routine { state = s }) c.state_told.ensures)

pub returns-then-not-call_rest-clause-leads : goal.returns-then-not-call_rest-clause-leads
returns-then-not-call_rest-clause-leads c = λ r lead whole. absurd (wrong (c.call_rest.ensures.leads c.args.is_stopped r lead whole).0 c.if-not-call_rest.true)

pub returns-then-not-hear_rest-clause-leads : goal.returns-then-not-hear_rest-clause-leads
returns-then-not-hear_rest-clause-leads c = λ r lead whole. absurd (wrong (c.hear_rest.ensures.awaited r.arrivals (rw c.as_slice.ensures (awaits_rest (route_of c.args.plan.now) c.args.told.now c.args.is_stopped r c.args.tape.now c.call_rest.new.self (c.call_rest.ensures.leads c.args.is_stopped r lead whole).1 whole)) (rest_here (route_of c.args.plan.now) c.args.told.now c.args.is_stopped r c.args.tape.now c.call_rest.new.self (c.call_rest.ensures.leads c.args.is_stopped r lead whole).1 whole)).0 c.if-not-hear_rest.true)

pub returns-then-not-has_heard_all-clause-leads : goal.returns-then-not-has_heard_all-clause-leads
returns-then-not-has_heard_all-clause-leads c = λ r lead whole. elim c.then-not-has_heard_all.branch [
  | then-not-has_heard_all-via-then-not-has_heard_all w ↦ absurd (wrong (c.has_heard_all.ensures.whole (came_all (route_of c.args.plan.now) c.args.told.now c.args.is_stopped r c.args.tape.now c.call_rest.new.self (c.call_rest.ensures.leads c.args.is_stopped r lead whole).1 whole c.hear_rest.new.self (rw (← c.as_slice.ensures) (c.if-not-hear_rest.ensures.listens refl)) (c.if-not-call_rest.ensures.all refl) (c.hear_rest.ensures.awaited r.arrivals (rw c.as_slice.ensures (awaits_rest (route_of c.args.plan.now) c.args.told.now c.args.is_stopped r c.args.tape.now c.call_rest.new.self (c.call_rest.ensures.leads c.args.is_stopped r lead whole).1 whole)) (rest_here (route_of c.args.plan.now) c.args.told.now c.args.is_stopped r c.args.tape.now c.call_rest.new.self (c.call_rest.ensures.leads c.args.is_stopped r lead whole).1 whole)).1)) w.if-not-has_heard_all.true)
  | then-not-has_heard_all-via-else-not-has_heard_all+then-next-told w ↦ absurd (w.if-next-told.true (w.next.ensures ∙ w.cursor.ensures ∙ next_told (route_of c.args.plan.now) c.args.told.now c.args.is_stopped r c.args.tape.now c.call_rest.new.self (c.call_rest.ensures.leads c.args.is_stopped r lead whole).1 whole c.hear_rest.new.self (rw (← c.as_slice.ensures) (c.if-not-hear_rest.ensures.listens refl)) (c.if-not-call_rest.ensures.all refl) (c.hear_rest.ensures.awaited r.arrivals (rw c.as_slice.ensures (awaits_rest (route_of c.args.plan.now) c.args.told.now c.args.is_stopped r c.args.tape.now c.call_rest.new.self (c.call_rest.ensures.leads c.args.is_stopped r lead whole).1 whole)) (rest_here (route_of c.args.plan.now) c.args.told.now c.args.is_stopped r c.args.tape.now c.call_rest.new.self (c.call_rest.ensures.leads c.args.is_stopped r lead whole).1 whole)).1))
]

pub returns-then-not-may_end-clause-leads : goal.returns-then-not-may_end-clause-leads
returns-then-not-may_end-clause-leads c = λ r lead whole.
    absurd (wrong (c.may_end.ensures ∙ ends (route_of c.args.plan.now) c.args.told.now c.args.is_stopped r c.args.tape.now c.call_rest.new.self (c.call_rest.ensures.leads c.args.is_stopped r lead whole).1 whole c.hear_rest.new.self (rw (← c.as_slice.ensures) (c.if-not-hear_rest.ensures.listens refl)) (c.if-not-call_rest.ensures.all refl) (c.hear_rest.ensures.awaited r.arrivals (rw c.as_slice.ensures (awaits_rest (route_of c.args.plan.now) c.args.told.now c.args.is_stopped r c.args.tape.now c.call_rest.new.self (c.call_rest.ensures.leads c.args.is_stopped r lead whole).1 whole)) (rest_here (route_of c.args.plan.now) c.args.told.now c.args.is_stopped r c.args.tape.now c.call_rest.new.self (c.call_rest.ensures.leads c.args.is_stopped r lead whole).1 whole)).1 c.fetches_find.ensures.find (may_further c.requires.may c.call_rest.ensures.stays) c.hear_rest.ensures.stays (c.if-not-call_rest.ensures.follows refl)) c.if-not-may_end.true)

pub returns-clause-leads : goal.returns-clause-leads
returns-clause-leads c = λ r lead whole. (
  refl,
  ap (λ (v : RoutineView). v.calls) c.yielded.ensures
      ∙ calls_here (route_of c.args.plan.now) c.args.told.now c.args.is_stopped r c.args.tape.now c.call_rest.new.self (c.call_rest.ensures.leads c.args.is_stopped r lead whole).1 whole c.hear_rest.new.self (rw (← c.as_slice.ensures) (c.if-not-hear_rest.ensures.listens refl)) (c.if-not-call_rest.ensures.all refl) (c.hear_rest.ensures.awaited r.arrivals (rw c.as_slice.ensures (awaits_rest (route_of c.args.plan.now) c.args.told.now c.args.is_stopped r c.args.tape.now c.call_rest.new.self (c.call_rest.ensures.leads c.args.is_stopped r lead whole).1 whole)) (rest_here (route_of c.args.plan.now) c.args.told.now c.args.is_stopped r c.args.tape.now c.call_rest.new.self (c.call_rest.ensures.leads c.args.is_stopped r lead whole).1 whole)).1,
)
