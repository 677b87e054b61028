use Rattle.std.proofs.Common.{◌≡◌, map, take}
use Rattle.cy_timer.specs.Ticks.{ticks_between}
use Rattle.cy_timer.proofs.merging.between.Given as goal

abbrev pub invariant-loop-timer : goal.invariant-loop-timer
invariant-loop-timer l = l.ticks.items ≡ map (ticks_between l.begin l.end) (take l.timer-index l.timers)
