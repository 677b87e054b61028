use Rattle.std.proofs.Common.{◌≡◌, ◌<◌, ◌++◌, length}
use Rattle.std.specs.List.{flat_map, All}
use Rattle.cy_trace_text.specs.private.TapeLines.{started_line}
use Rattle.cy_trace_text.proofs.Starts.{texts_of}
use Rattle.cy_trace_text.proofs.lines.push_short.Given as goal

abbrev pub invariant-loop-rest : goal.invariant-loop-rest
invariant-loop-rest l = record {
  known : All (λ t. t.channel < length l.starts) l.rest;
  text : l.to.items ++ flat_map (started_line (texts_of l.starts)) l.rest ≡ l.fn.to.items ++ flat_map (started_line (texts_of l.starts)) l.tape;
}

abbrev pub decreases-loop-rest : goal.decreases-loop-rest
decreases-loop-rest l = length l.rest
