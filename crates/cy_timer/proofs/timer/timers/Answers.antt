use Rattle.std.proofs.Common.{◌≡◌, subst, sym, arith}
use Rattle.std.proofs.lemmas.Grind.{common_steps}
use Rattle.cy_timer.specs.Timers.{AreTimers, timers_of}
use Rattle.cy_timer.proofs.Wired.{are-timers}
use Rattle.cy_timer.proofs.timer.timers.Goals as goal

pub returns-clause-lawful : goal.returns-clause-lawful
returns-clause-lawful c =
    let items : c.loop-plan.timers.items ≡ timers_of c.args.wiring.now.plans = grind (arith, common_steps) in
    subst AreTimers (sym items) (are-timers c.args.wiring.now.names c.args.wiring.now.plans c.args.wiring.now.lawful)
