use Rattle.std.proofs.Common.{◌≡◌, ◌≤◌, ◌-◌, ℕ, List, length, take, flat_map}
use Rattle.cy_comp.specs.declared.plan.Plan.{Plan}
use Rattle.wake_core.specs.Run.{Run}
use Rattle.cy_trace_text.specs.TraceText.{tape_line}
use Rattle.cy_trace_text.specs.private.Adding.{Adds}
use Rattle.cy_trace_text.proofs.parts.push_tape_parts.Given as goal

abbrev pub invariant-loop-from : goal.invariant-loop-from
invariant-loop-from l = record {
  low : l.from ≤ l.messages;
  adds : (names : List (List ℕ)) (plans : List Plan) (shadowed : ℕ) (w : Run) → length w.tape ≡ l.messages
      → Adds names plans shadowed w l.fn.parts.items l.parts.items (flat_map (tape_line names) (take l.from w.tape));
}

abbrev pub decreases-loop-from : goal.decreases-loop-from
decreases-loop-from l = l.messages - l.from
