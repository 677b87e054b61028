use Rattle.std.proofs.Common.{◌∙◌, ℕ, length, arith, ap, sym}
use Rattle.cy_timer.specs.Ticks.{multiples}
use Rattle.cy_timer.proofs.Ticking.{can-tick, kept-ticks, length-between}
use Rattle.cy_timer.proofs.ticks.Ticks.new.Goals as goal

pub overflow_cast-result : goal.overflow_cast-result
overflow_cast-result c =
    let count = c.tick_count.ensures.count in
    let size = length-between c.args.begin c.args.end c.args.timer.now in
    let few = c.requires.few in
    omega (arith, count, size, few)

pub invariant_of-result : goal.invariant_of-result
invariant_of-result c =
    let count = c.tick_count.ensures.count in
    let size = length-between c.args.begin c.args.end c.args.timer.now in
    let few = c.requires.few in
    let fits = c.ranges.end.fits in
    let period = c.period_of-period.ensures in
    can-tick c.args.timer.now.interval c.period_of-period.result c.args.begin c.args.end c.first_number.result c.tick_count.result c.requires.some c.requires.order (omega (arith, fits)) period c.first_number.ensures.first
    (count ∙ ap (λ (p : ℕ). length (multiples p c.args.begin c.args.end)) (sym period)) (omega (arith, count, size, few))

pub returns : goal.returns
returns c =
    let period = c.period_of-period.ensures in
    kept-ticks c.args.timer.now c.period_of-period.result c.args.begin c.args.end c.first_number.result c.tick_count.result c.requires.some c.requires.order period c.first_number.ensures.first
    (c.tick_count.ensures.count ∙ ap (λ (p : ℕ). length (multiples p c.args.begin c.args.end)) (sym period))
