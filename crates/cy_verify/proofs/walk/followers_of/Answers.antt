use Rattle.std.proofs.Common.{sym, ◌∙◌}
use Rattle.cy_verify.proofs.FollowersMade.{made_first, made_next, made_all}
use Rattle.cy_verify.proofs.walk.followers_of.Goals as goal

pub loop-visitor-init : goal.loop-visitor-init
loop-visitor-init c = made_first c.in_ok-followers.ensures.items c.into_iter-visitor-iterator.ensures.into_iter_gives.0 c.into_iter-rest.ensures.rest

pub loop-visitor-preserved : goal.loop-visitor-preserved
loop-visitor-preserved c =
    made_next c.in-Some.visitor c.in-Some-next.routine c.new.result c.new.ensures.visitor c.new.ensures.routine (c.new.ensures.searched, c.new.ensures.nothing.0, c.new.ensures.nothing.1)
    c.in-Some.ensures.steps.0 c.in-Some-next.ensures.items c.in_ok-push.ensures.items c.loop-visitor.invariant

pub returns-clause-followers : goal.returns-clause-followers
returns-clause-followers c = made_all c.requires c.loop-visitor.invariant (sym c.loop-visitor.visitor-iterator.rest.ok.0 ∙ c.in-None.ensures.steps.0)

pub returns-clause-fresh : goal.returns-clause-fresh
returns-clause-fresh c = c.loop-visitor.invariant.fresh
