use Rattle.std.proofs.Common.{sym, ◌∙◌, ap, subst, get_or, List, Option}
use Rattle.std.specs.Bool.{Decides}
use Rattle.cy_msg.specs.declared.stop.Stop.{Stop}
use Rattle.cy_msg.proofs.Lists.{there}
use Rattle.cy_comp.specs.declared.plan.Plan.{Plan}
use Rattle.cy_trace.specs.declared.trace.TraceComponent.{TraceComponent}
use Rattle.cy_verify.specs.private.Allowing.{IsObedient}
use Rattle.cy_verify.proofs.Allowed.{obedient_one}
use Rattle.cy_verify.proofs.Heard.{there_is}
use Rattle.cy_verify.proofs.ending.is_obedient.Goals as goal

pub returns : goal.returns
returns c =
    let s = c.in-Some.stop in
    let plan = c.index-plans-component.result in
    let k = c.index-told-component.result in
    let known = c.requires.known s c.in-Some.is in
    let f = there c.args.walk.now.followers.items s.component (rw c.requires.many known) in
    subst (λ (o : Option Stop). Decides c.obeys.result (IsObedient c.args.wiring.now.plans o c.args.walk.now)) (sym c.in-Some.is)
    (obedient_one c.args.wiring.now.plans c.args.walk.now s f.0 c.obeys.result f.1
    (rw (← c.as_slice-plans.ensures) rw (← c.as_slice.ensures.value) (c.obeys.ensures f.0.routine.calls
    (c.requires.calls_told s.component f.0 k f.1 (there_is c.args.told.now s.component k (rw c.requires.all_told known) c.index-told-component.is) ∙ ap (λ (k : TraceComponent). k.calls) c.index-told-component.is)
    (rw (c.as_slice-readers.ensures, ← c.index-plans-component.is, c.as_slice.ensures.value) (c.requires.takes s.component plan f.0 (there_is c.args.wiring.now.plans s.component plan known (c.index-plans-component.is ∙ ap (λ (ps : List Plan). get_or ps s.component plan) c.as_slice-plans.ensures)) f.1)))))
