use Rattle.std.proofs.Common.{◌≡◌, ◌++◌, take}
use Rattle.std.specs.List.{flat_map}
use Rattle.cy_trace_text.specs.private.TapeLines.{started_line}
use Rattle.cy_trace_text.proofs.Starts.{texts_of}
use Rattle.cy_trace_text.proofs.lines.push_long.Given as goal

abbrev pub invariant-loop-token : goal.invariant-loop-token
invariant-loop-token l = l.to.items ≡ l.fn.to.items ++ flat_map (started_line (texts_of l.starts)) (take l.token-index l.tape)
