use Rattle.std.proofs.Common.{sym, ◌∙◌, ap, arith, length}
use Rattle.cy_verify.specs.declared.follower.Follower.{Follower}
use Rattle.cy_verify.proofs.Heard.{there_is}
use Rattle.cy_verify.proofs.CallTotal.{total_more, total_all}
use Rattle.cy_verify.proofs.judge.count_calls.Goals as goal

pub loop-component-init : goal.loop-component-init
loop-component-init c = record { few = omega arith; so_far = omega arith }

pub loop-component-preserved : goal.loop-component-preserved
loop-component-preserved c =
    total_more c.args.followers.now c.loop-component.component c.loop-component.count c.call_count.result c.index-followers-component.result c.loop-component.invariant
    (there_is c.args.followers.now c.loop-component.component c.index-followers-component.result c.loop-component-test.true c.index-followers-component.is) (c.call_count.ensures ∙ ap (λ (f : Follower). length f.routine.calls) (sym c.index-followers-component.is)) (omega (arith, c.call_count.type_inv))

pub returns : goal.returns
returns c = total_all c.args.followers.now c.loop-component.component c.loop-component.count c.loop-component.invariant (omega (arith, c.loop-component-test.false, c.loop-component.auto.component-end))
