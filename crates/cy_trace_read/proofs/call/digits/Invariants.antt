use Rattle.std.proofs.Common.{◌≡◌, drop}
use Rattle.cy_trace_read.specs.LineReading.{digits}
use Rattle.cy_trace_read.proofs.ReadingSteps.{onto}
use Rattle.cy_trace_read.proofs.call.digits.Given as goal

abbrev pub invariant-loop-byte : goal.invariant-loop-byte
invariant-loop-byte l = onto l.roles.items (digits (drop l.byte-index l.bytes)) ≡ digits l.bytes
