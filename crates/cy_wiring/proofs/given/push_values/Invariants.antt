use Rattle.std.proofs.Common.{◌≡◌, ◌++◌, map, take}
use Rattle.cy_wiring.specs.private.Pairs.{pair_of}
use Rattle.cy_wiring.proofs.given.push_values.Given as goal

abbrev pub invariant-loop-value : goal.invariant-loop-value
invariant-loop-value l = map pair_of l.given.items ≡ map pair_of l.fn.given.items ++ map (λ value. (l.component, value)) (take l.value-index l.values)
