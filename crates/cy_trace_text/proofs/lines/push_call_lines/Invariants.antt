use Rattle.std.proofs.Common.{◌≡◌, ◌≤◌, ◌+◌, ◌++◌, length}
use Rattle.cy_trace_text.specs.TraceText.{call_lines}
use Rattle.cy_trace_text.proofs.lines.push_call_lines.Given as goal

abbrev pub invariant-loop-left : goal.invariant-loop-left
invariant-loop-left l = record {
  left : l.left ≡ length l.rest;
  few : l.before + length l.rest ≤ l.fn.before + length l.fn.calls;
  text : l.to.items ++ call_lines l.before l.rest ≡ l.fn.to.items ++ call_lines l.fn.before l.fn.calls;
}

abbrev pub decreases-loop-left : goal.decreases-loop-left
decreases-loop-left l = l.left
