use Rattle.std.proofs.Common.{◌≡◌, ◌+◌, ◌<◌, ℕ, List, length, take, drop}
use Rattle.cy_comp.specs.declared.plan.Plan.{Plan}
use Rattle.wake_core.specs.Run.{Run}
use Rattle.cy_trace_text.specs.TraceText.{call_lines}
use Rattle.cy_trace_text.specs.private.Adding.{Adds}
use Rattle.cy_trace_text.specs.private.OutsAfter.{outs_after}
use Rattle.cy_trace_text.proofs.parts.push_call_parts.Given as goal

abbrev pub invariant-loop-left : goal.invariant-loop-left
invariant-loop-left l = record {
  left : l.from + l.left ≡ length l.fn.calls;
  rest : l.rest ≡ drop l.from l.fn.calls;
  before : l.before ≡ outs_after 0 (take l.from l.fn.calls);
  adds : (names : List (List ℕ)) (plans : List Plan) (shadowed : ℕ) (w : Run) → l.component < length plans → w.calls l.component ≡ l.fn.calls
      → Adds names plans shadowed w l.fn.parts.items l.parts.items (call_lines 0 (take l.from l.fn.calls));
}

abbrev pub decreases-loop-left : goal.decreases-loop-left
decreases-loop-left l = l.left
