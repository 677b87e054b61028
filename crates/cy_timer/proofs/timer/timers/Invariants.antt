use Rattle.std.proofs.Common.{◌≡◌, take}
use Rattle.std.specs.List.{flat_map}
use Rattle.cy_timer.specs.Timers.{timer_of}
use Rattle.cy_timer.proofs.timer.timers.Given as goal

abbrev pub invariant-loop-plan : goal.invariant-loop-plan
invariant-loop-plan l = l.timers.items ≡ flat_map timer_of (take l.plan-index l.plan-items)
