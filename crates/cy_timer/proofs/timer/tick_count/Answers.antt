use Rattle.std.proofs.Common.{◌≤◌, ◌∙◌, ℕ, ap, arith, length}
use Rattle.cy_timer.specs.Ticks.{multiples}
use Rattle.cy_timer.proofs.Ticking.{counted_is}
use Rattle.cy_timer.proofs.timer.tick_count.Goals as goal

pub returns-clause-count : goal.returns-clause-count
returns-clause-count c =
    let period = c.period_of-period.ensures in
    let some = c.requires.some in
    let positive : 1 ≤ c.period_of-period.result = omega (arith, period, some) in
    counted_is c.period_of-period.result c.args.begin c.args.end c.first_number.result positive c.requires.order c.first_number.ensures.first
    ∙ ap (λ (p : ℕ). length (multiples p c.args.begin c.args.end)) period
