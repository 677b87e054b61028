use Rattle.std.proofs.Common.{sym, ◌∙◌}
use Rattle.cy_verify.proofs.Heard.{none_fused}
use Rattle.cy_verify.proofs.follower.tail_of.Goals as goal

pub returns-in-None : goal.returns-in-None
returns-in-None c = none_fused c.fetches_find.ensures.find c.args.visitor.now c.new.result c.new.ensures (sym c.try_fetch.ensures.found ∙ c.in-None.is)
