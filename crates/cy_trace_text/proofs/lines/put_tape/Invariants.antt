use Rattle.std.proofs.Common.{◌≡◌, ◌≤◌, ◌*◌, take}
use Rattle.std.specs.List.{flat_map}
use Rattle.cy_trace_text.specs.private.TapeLines.{started_line}
use Rattle.cy_trace_text.proofs.Starts.{texts_of}
use Rattle.cy_trace_text.proofs.lines.put_tape.Given as goal

abbrev pub invariant-loop-token : goal.invariant-loop-token
invariant-loop-token l = record {
  room : l.at ≤ 121 * l.token-index;
  text : take l.at l.page ≡ flat_map (started_line (texts_of l.starts)) (take l.token-index l.tape);
}
