use Rattle.std.proofs.Common.{List, ℕ, ap, ◌∙◌}
use Rattle.cy_sched.specs.Placing.{home_of}
use Rattle.cy_config.proofs.Loops.{pushed_more}
use Rattle.cy_sched.proofs.homes.homes.Goals as goal

pub loop-name-preserved : goal.loop-name-preserved
loop-name-preserved c =
    let sched = c.args.sched.now in
    pushed_more (home_of sched) c.args.names.now c.loop-name.name-index c.name-item.result c.loop-name.homes.items c.push.new.self.items _
    c.loop-name-test.true c.name-item.is c.loop-name.invariant (c.home.ensures ∙ ap (λ (n : List ℕ). home_of sched n) c.as_str.ensures.value) c.in_ok-push.ensures.items
