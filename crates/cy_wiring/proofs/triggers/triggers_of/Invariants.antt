use Rattle.std.proofs.Common.{◌≡◌, map, take}
use Rattle.cy_wiring.specs.Triggers.{trigger_of}
use Rattle.cy_wiring.proofs.triggers.triggers_of.Given as goal

abbrev pub invariant-loop-component : goal.invariant-loop-component
invariant-loop-component l = l.triggers.items ≡ map (trigger_of l.configs) (take l.component-index l.components)
