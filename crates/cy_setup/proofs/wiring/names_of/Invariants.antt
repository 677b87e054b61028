use Rattle.std.proofs.Common.{◌≡◌, map, take}
use Rattle.cy_setup.proofs.wiring.names_of.Given as goal

abbrev pub invariant-loop-component : goal.invariant-loop-component
invariant-loop-component l = l.names.items ≡ map (λ c. c.name) (take l.component-index l.components)
