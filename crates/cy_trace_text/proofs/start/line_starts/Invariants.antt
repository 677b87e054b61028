use Rattle.std.proofs.Common.{◌≡◌, map, take}
use Rattle.cy_trace.specs.LineParts.{tape_start}
use Rattle.cy_trace_text.proofs.Starts.{texts_of}
use Rattle.cy_trace_text.proofs.start.line_starts.Given as goal

abbrev pub invariant-loop-channel : goal.invariant-loop-channel
invariant-loop-channel l = texts_of l.starts.items ≡ map tape_start (take l.channel l.names)
