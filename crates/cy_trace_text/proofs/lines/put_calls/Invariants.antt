use Rattle.std.proofs.Common.{◌≡◌, ◌≤◌, ◌+◌, ◌*◌, ◌++◌, take, length}
use Rattle.cy_trace_text.specs.private.OutsAfter.{outs_after}
use Rattle.cy_trace_text.specs.TraceText.{call_lines}
use Rattle.cy_trace_text.proofs.lines.put_calls.Given as goal

abbrev pub invariant-loop-call : goal.invariant-loop-call
invariant-loop-call l = record {
  room : l.at + 195 * length l.rest ≤ 195 * length l.fn.calls;
  few : l.after + length l.rest ≤ l.before + length l.fn.calls;
  count : outs_after l.after l.rest ≡ outs_after l.before l.fn.calls;
  text : take l.at l.page ++ call_lines l.after l.rest ≡ call_lines l.before l.fn.calls;
}

abbrev pub decreases-loop-call : goal.decreases-loop-call
decreases-loop-call l = length l.rest
