use Rattle.std.proofs.Common.{refl, sym, ◌∙◌, ap, subst, Option}
use Rattle.cy_msg.specs.declared.stop.Stop.{Stop}
use Rattle.wake_core.specs.WorldOf.{stop_in}
use Rattle.cy_verify.specs.declared.walk.Walk.{Walk}
use Rattle.cy_verify.specs.private.Allowing.{MayAsk, IsAllowed}
use Rattle.cy_verify.specs.private.Walking.{task_in}
use Rattle.cy_verify.proofs.LawfulAllowed.{lawful_allowed}
use Rattle.cy_verify.proofs.MayAsked.{may_ask}
use Rattle.cy_verify.proofs.Walked.{same_may}
use Rattle.cy_verify.proofs.judge.follows.Goals as goal

pub is_allowed-requires : goal.is_allowed-requires
is_allowed-requires c =
    let kept = ap (λ (w : Walk). w.fixed) c.finish.ensures.same ∙ c.put_all.ensures.same in
    let may = same_may c.args.wiring.now c.args.list.now c.args.walk.now c.finish.new.self kept c.requires.may in
    rw c.as_slice.ensures (subst (λ (s : Option Stop). MayAsk c.args.wiring.now.plans c.args.trace.now.components s c.finish.new.self) (ap stop_in kept ∙ sym c.requires.stop)
    (may_ask (task_in c.args.wiring.now c.args.list.now c.finish.new.self) c.args.trace.now.components c.finish.new.self c.requires.told may.within (c.if-not-finish.ensures.walked refl)))

pub returns-clause-leads : goal.returns-clause-leads
returns-clause-leads c = λ w led told.
    let put = c.put_all.ensures.leads w led told in
    let done = c.finish.ensures.leads w put.2 put.1 in
    c.is_allowed.ensures.1 (subst (λ (s : Option Stop). IsAllowed c.args.wiring.now.plans s c.finish.new.self) (sym c.requires.stop)
    (lawful_allowed (task_in c.args.wiring.now c.args.list.now c.args.walk.now) w c.finish.new.self led.lawful (ap (λ (v : Walk). v.tape.items) c.finish.ensures.same ∙ put.1) c.requires.may.within.component done.1))
