-- The component is called on the tuple that was found.
use Rattle.std.proofs.Common.{Some, sym, ap, ◌∙◌, subst}
use Rattle.cy_msg.specs.declared.token.Tuple.{Tuple}
use Rattle.cy_comp.specs.declared.call.Outcome.{Outcome}
use Rattle.cy_comp.specs.Calls.{last_outcome}
use Rattle.cy_comp.specs.Routine.{RoutineView, MayTake}
use Rattle.cy_table.proofs.Counting.{last_push}
use Rattle.cy_table.proofs.Resuming.{given_is}
use Rattle.cy_table.proofs.hold.Hold.step.Goals as goal

pub took-requires-clause-fits : goal.took-requires-clause-fits
took-requires-clause-fits c =
    let h = c.args.self.now in
    let f = c.in-Some.found in
    subst (λ (t : Tuple). MayTake h.routine t f.position) (given_is h.found f c.args.tuple.now c.in-Some.is c.requires) (h.fits f c.in-Some.is)

pub returns-clause-outcome : goal.returns-clause-outcome
returns-clause-outcome c =
    ap (λ (r : RoutineView). last_outcome r.kind r.calls) c.took.ensures.taken
    ∙ (last_push c.args.self.now.routine.kind c.args.self.now.routine.calls _ ∙ ap (λ (o : Outcome). Some o) (sym c.took.ensures.outcome))
