use Rattle.std.proofs.Common.{◌≡◌, ◌++◌, take}
use Rattle.cy_report.specs.CheckText.{context_lines}
use Rattle.cy_report.proofs.lines.push_contexts.Given as goal

abbrev pub invariant-loop-context : goal.invariant-loop-context
invariant-loop-context l = l.to.items ≡ l.fn.to.items ++ context_lines l.components (take l.context-index l.contexts)
