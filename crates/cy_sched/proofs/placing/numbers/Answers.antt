use Rattle.cy_config.proofs.Loops.{copied_more}
use Rattle.cy_sched.proofs.placing.numbers.Goals as goal

pub loop-rank-preserved : goal.loop-rank-preserved
loop-rank-preserved c =
    copied_more (λ r. r.1) c.args.ranks.now c.loop-rank.rank-index _ c.loop-rank.numbers.items c.push.new.self.items c.loop-rank-test.true c.loop-rank.invariant c.in_ok-push.ensures.items
