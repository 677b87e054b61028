use Rattle.std.proofs.Common.{◌+◌, ◌≤◌, length}
use Rattle.cy_trace.specs.Taking.{TakesCalls}
use Rattle.cy_trace.proofs.front_call.take_calls.Given as goal

abbrev pub invariant-loop-call : goal.invariant-loop-call
invariant-loop-call l = record {
  taken : TakesCalls l.bytes l.rest l.fn.calls l.calls l.line l.next;
  room : l.next + length l.rest ≤ 4294967295;
}

abbrev pub decreases-loop-call : goal.decreases-loop-call
decreases-loop-call l = length l.rest
