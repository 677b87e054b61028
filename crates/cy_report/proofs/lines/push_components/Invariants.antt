use Rattle.std.proofs.Common.{◌≡◌, ◌++◌, take}
use Rattle.cy_report.specs.CheckText.{component_lines}
use Rattle.cy_report.proofs.lines.push_components.Given as goal

abbrev pub invariant-loop-place : goal.invariant-loop-place
invariant-loop-place l = l.to.items ≡ l.fn.to.items ++ component_lines (take l.place l.components) (take l.place l.configs)
