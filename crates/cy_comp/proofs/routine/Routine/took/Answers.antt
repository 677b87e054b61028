use Rattle.std.proofs.Common.{◌∙◌, ap}
use Rattle.cy_comp.specs.Routine.{RoutineView, answer_to}
use Rattle.cy_comp.specs.Routine.{taken as after_call}
use Rattle.cy_comp.specs.private.CallsView.{CallsView}
use Rattle.cy_comp.proofs.Taking.{answered, seen_as, taken_is, keeps}
use Rattle.cy_comp.proofs.routine.Routine.took.Goals as goal

pub invariant_of-self : goal.invariant_of-self
invariant_of-self c =
    keeps _ _ _ _ _ _ _ c.self.invariant c.step-outcome.ensures.kind c.step-outcome.ensures.kept (ap (λ (l : CallsView). l.made) c.push.ensures)
    c.at-self-inside.ensures

pub returns-clause-outcome : goal.returns-clause-outcome
returns-clause-outcome c =
    answered c.self.inside.body c.self.inside.calls.made c.args.tuple c.step-outcome.result c.self.invariant.kept c.step-outcome.ensures.outcome
    ∙ ap (λ (r : RoutineView). answer_to r c.args.tuple) c.self.view_is

pub returns-clause-taken : goal.returns-clause-taken
returns-clause-taken c =
    ap (λ n. seen_as c.step-outcome.new.self.kind c.self.inside.state c.push.new.self.made c.output_of-out.result n) (ap (λ (l : CallsView). l.spare) c.push.ensures)
    ∙ taken_is c.self.inside.body.kind _ c.self.inside.state c.self.inside.calls.made _ c.self.inside.pending _ c.self.inside.calls.spare c.args.position c.args.tail c.args.tuple
    c.step-outcome.result c.step-outcome.ensures.kind c.output_of-out.ensures
    (answered c.self.inside.body c.self.inside.calls.made c.args.tuple c.step-outcome.result c.self.invariant.kept c.step-outcome.ensures.outcome)
    (ap (λ (l : CallsView). l.made) c.push.ensures)
    ∙ ap (λ (r : RoutineView). after_call r c.args.tuple c.args.position c.args.tail) c.self.view_is
