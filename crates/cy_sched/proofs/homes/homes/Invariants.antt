use Rattle.std.proofs.Common.{◌≡◌, map, take}
use Rattle.cy_sched.specs.Placing.{home_of}
use Rattle.cy_sched.proofs.homes.homes.Given as goal

abbrev pub invariant-loop-name : goal.invariant-loop-name
invariant-loop-name l = l.homes.items ≡ map (home_of l.sched) (take l.name-index l.names)
