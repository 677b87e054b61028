use Rattle.std.proofs.Common.{◌≡◌, ◌++◌, take}
use Rattle.cy_report.specs.CheckText.{unknown_lines}
use Rattle.cy_report.proofs.lines.push_unknown.Given as goal

abbrev pub invariant-loop-path : goal.invariant-loop-path
invariant-loop-path l = l.to.items ≡ l.fn.to.items ++ unknown_lines l.file (take l.path-index l.paths)
