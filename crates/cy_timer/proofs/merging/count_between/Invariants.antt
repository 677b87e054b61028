use Rattle.std.proofs.Common.{◌≡◌, ◌≤◌, ◌*◌, length, take}
use Rattle.std.specs.Prelude.{sum_by}
use Rattle.cy_timer.specs.Ticks.{most_ticks, ticks_between}
use Rattle.cy_timer.proofs.merging.count_between.Given as goal

abbrev pub invariant-loop-timer : goal.invariant-loop-timer
invariant-loop-timer l = record {
  count : l.count ≡ sum_by (λ t. length (ticks_between l.begin l.end t)) (take l.timer-index l.timers);
  most : l.count ≤ l.timer-index * most_ticks;
}
