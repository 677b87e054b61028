use Rattle.std.proofs.Common.{◌≡◌, ◌++◌, map, take}
use Rattle.cy_setup.proofs.listing.push_channels.Given as goal

abbrev pub invariant-loop-timer : goal.invariant-loop-timer
invariant-loop-timer l = l.numbers.items ≡ l.fn.numbers.items ++ map (λ t. t.channel) (take l.timer-index l.timers)
