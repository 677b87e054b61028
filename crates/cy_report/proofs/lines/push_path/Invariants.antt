use Rattle.std.proofs.Common.{◌≡◌, ◌++◌, take}
use Rattle.cy_report.specs.CheckText.{path_text}
use Rattle.cy_report.proofs.lines.push_path.Given as goal

abbrev pub invariant-loop-number : goal.invariant-loop-number
invariant-loop-number l = l.to.items ≡ l.fn.to.items ++ path_text (take l.number-index l.path)
