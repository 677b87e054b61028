use Rattle.std.proofs.Common.{◌+◌, ◌<◌, ◌∙◌, length, sym, arith, rules}
use Rattle.cy_timer.specs.Ticks.{ticks_between}
use Rattle.cy_timer.specs.declared.timer.Timer.{Timer}
use Rattle.std.proofs.lemmas.List.Sums.{sum_by_more}
use Rattle.cy_timer.proofs.Ticking.{length-between}
use Rattle.std.proofs.Common.{get_or}
use Rattle.cy_timer.proofs.merging.count_between.Goals as goal

pub loop-timer-preserved : goal.loop-timer-preserved
loop-timer-preserved c =
    let timers = c.args.timers.now in
    let i = c.loop-timer.timer-index in
    let none : Timer = record { channel = 0; interval = 0 } in
    let less : i < length timers = search rules in
    let size = length-between c.args.begin c.args.end (get_or timers i none) in
    let before = c.loop-timer.invariant.count in
    let found = c.tick_count-count.ensures.count in
    let low = c.loop-timer.invariant.most in
    let most = c.tick_count-count.ensures.most in
    record {
      count = (λ j. before j + (found ∙ sym size) j) ∙ sym (sum_by_more (λ (t : Timer). length (ticks_between c.args.begin c.args.end t)) timers i none less);
      most = omega (arith, low, most);
    }
