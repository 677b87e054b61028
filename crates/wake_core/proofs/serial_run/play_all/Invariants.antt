use Rattle.cy_msg.specs.Placement.{scan_of}
use Rattle.wake_core.specs.WorldOf.{plain_of}
use Rattle.wake_core.specs.Turns.{PlaysOn}
use Rattle.wake_core.proofs.serial_run.play_all.Given as goal

-- Those before this one were played.
abbrev pub invariant-loop-index : goal.invariant-loop-index
invariant-loop-index l = PlaysOn (scan_of l.contexts) l.tokens l.fn.from l.index (plain_of l.fn.world) (plain_of l.world)
