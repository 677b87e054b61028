use Rattle.cy_msg.specs.Placement.{scan_of}
use Rattle.wake_core.specs.WorldOf.{plain_of}
use Rattle.wake_core.specs.Turns.{turns_left}
use Rattle.wake_core.proofs.Turning.{SettlesOn}
use Rattle.wake_core.proofs.serial_run.settle.Given as goal

-- What settles from here settles from the beginning.
abbrev pub invariant-loop : goal.invariant-loop
invariant-loop l = SettlesOn (scan_of l.contexts) (plain_of l.fn.world) (plain_of l.world)

abbrev pub decreases-loop : goal.decreases-loop
decreases-loop l = turns_left (plain_of l.world)
