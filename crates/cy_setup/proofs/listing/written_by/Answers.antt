use Rattle.std.proofs.Common.{List, ℕ, ◌++◌, map, ap, refl, ◌∙◌}
use Rattle.std.proofs.lemmas.List.{take_all}
use Rattle.cy_comp.specs.declared.plan.Plan.{Plan}
use Rattle.cy_config.proofs.Loops.{pushed_more}
use Rattle.cy_timer.specs.declared.timer.Timer.{Timer}
use Rattle.cy_setup.proofs.listing.written_by.Goals as goal

pub loop-plan-preserved : goal.loop-plan-preserved
loop-plan-preserved c =
    pushed_more (λ (p : Plan). p.out) c.as_slice-plans.result.now c.loop-plan.plan-index c.plan-item.result c.loop-plan.numbers.items c.push.new.self.items _
    c.loop-plan-test.true c.plan-item.is c.loop-plan.invariant refl c.in_ok-push.ensures.items

pub returns : goal.returns
returns c =
    let outs = c.loop-plan.invariant ∙ ap (map (λ (p : Plan). p.out)) (take_all c.loop-plan.plan-index c.as_slice-plans.result.now c.loop-plan-test.false)
    ∙ ap (map (λ (p : Plan). p.out)) c.as_slice-plans.ensures in
    c.new.ensures ∙ c.in_ok-push_channels.ensures ∙ ap (λ (ns : List ℕ). ns ++ map (λ (t : Timer). t.channel) c.args.timers.now) outs
    ∙ ap (λ (ts : List Timer). map (λ (p : Plan). p.out) c.args.wiring.now.plans ++ map (λ (t : Timer). t.channel) ts) c.requires
