use Rattle.std.proofs.Common.{◌≤◌, length, take}
use Rattle.std.specs.List.{All}
use Rattle.cy_trace_text.specs.declared.start.LineStart.{LineStart}
use Rattle.cy_trace_text.proofs.start.are_short.Given as goal

abbrev pub invariant-loop-start : goal.invariant-loop-start
invariant-loop-start l = All (λ (s : LineStart). length s.text ≤ 100) (take l.start-index l.starts)
