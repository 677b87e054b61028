use Rattle.std.proofs.Common.{◌≡◌, ◌++◌, take}
use Rattle.cy_setup.proofs.values.push_values.Given as goal

abbrev pub invariant-loop-value : goal.invariant-loop-value
invariant-loop-value l = l.to.items ≡ l.fn.to.items ++ take l.value-index l.values
