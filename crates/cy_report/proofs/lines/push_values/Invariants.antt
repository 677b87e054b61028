use Rattle.std.proofs.Common.{◌≡◌, ◌++◌, take}
use Rattle.std.specs.List.{flat_map}
use Rattle.cy_report.specs.CheckText.{value_line}
use Rattle.cy_report.proofs.lines.push_values.Given as goal

abbrev pub invariant-loop-value : goal.invariant-loop-value
invariant-loop-value l = l.to.items ≡ l.fn.to.items ++ flat_map value_line (take l.value-index l.values)
