use Rattle.std.proofs.Common.{◌≤◌, ◌-◌, ◌∙◌, sym, ap, subst}
use Rattle.cy_comp.specs.Routine.{RoutineView, answer_to}
use Rattle.cy_comp.specs.Routine.{taken as after_call}
use Rattle.cy_comp.proofs.Taking.{answered, seen_as, taken_is}
use Rattle.wake_core.specs.declared.entries.TheConstants.{MOST_PLANNED}
use Rattle.cy_verify.proofs.CallerKept.{caller_keeps, one_less}
use Rattle.cy_verify.proofs.caller.Caller.took.Goals as goal

pub invariant_of-self : goal.invariant_of-self
invariant_of-self c =
    caller_keeps _ _ _ _ _ _ _ _ c.self.invariant c.step-outcome.ensures.kind c.step-outcome.ensures.kept c.then-self-inside.ensures c.at-self-inside.ensures
    (subst (λ (r : RoutineView). 1 ≤ r.spare) (sym c.self.view_is) c.requires.room)

pub returns-clause-outcome : goal.returns-clause-outcome
returns-clause-outcome c =
    answered c.self.inside.body c.self.inside.made.list c.args.tuple c.step-outcome.result c.self.invariant.kept c.step-outcome.ensures.outcome
    ∙ ap (λ (r : RoutineView). answer_to r c.args.tuple) c.self.view_is

pub returns-clause-taken : goal.returns-clause-taken
returns-clause-taken c =
    ap (λ n. seen_as c.step-outcome.new.self.kind c.self.inside.state c.then-self-inside.result.list c.output_of-out.result n) (one_less MOST_PLANNED c.self.inside.count)
    ∙ taken_is c.self.inside.body.kind _ c.self.inside.state c.self.inside.made.list _ c.self.inside.pending _ (MOST_PLANNED - c.self.inside.count) c.args.position c.args.tail c.args.tuple
    c.step-outcome.result c.step-outcome.ensures.kind c.output_of-out.ensures
    (answered c.self.inside.body c.self.inside.made.list c.args.tuple c.step-outcome.result c.self.invariant.kept c.step-outcome.ensures.outcome)
    c.then-self-inside.ensures
    ∙ ap (λ (r : RoutineView). after_call r c.args.tuple c.args.position c.args.tail) c.self.view_is
