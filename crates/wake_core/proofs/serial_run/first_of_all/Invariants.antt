use Rattle.std.proofs.Common.{take}
use Rattle.cy_msg.specs.Placement.{scan_of}
use Rattle.wake_core.specs.WorldOf.{plain_of}
use Rattle.wake_core.specs.Rest.{IsAtRest}
use Rattle.wake_core.specs.Turns.{Passes}
use Rattle.wake_core.proofs.serial_run.first_of_all.Given as goal

-- None of those in the contexts before was READY.
abbrev pub invariant-loop-context : goal.invariant-loop-context
invariant-loop-context l = record {
  rest : IsAtRest (plain_of l.world);
  passes : Passes (scan_of (take l.context-index l.contexts)) (plain_of l.fn.world) (plain_of l.world);
}
