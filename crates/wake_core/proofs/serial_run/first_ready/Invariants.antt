use Rattle.std.proofs.Common.{take}
use Rattle.wake_core.specs.WorldOf.{plain_of}
use Rattle.wake_core.specs.Rest.{IsAtRest}
use Rattle.wake_core.specs.Turns.{Passes}
use Rattle.wake_core.proofs.serial_run.first_ready.Given as goal

-- None of those before was READY.
abbrev pub invariant-loop-component : goal.invariant-loop-component
invariant-loop-component l = record {
  rest : IsAtRest (plain_of l.world);
  passes : Passes (take l.component-index l.order) (plain_of l.fn.world) (plain_of l.world);
}
