use Rattle.std.proofs.Common.{◌≡◌, ◌++◌, drop}
use Rattle.cy_trace_read.specs.LineReading.{unquoted_from}
use Rattle.cy_trace_read.specs.declared.name.Escape.TheVariants.{Outside}
use Rattle.cy_trace_read.proofs.name.unquoted.Given as goal

abbrev pub invariant-loop-byte : goal.invariant-loop-byte
invariant-loop-byte l = l.text.items ++ unquoted_from l.escape (drop l.byte-index l.bytes) ≡ unquoted_from Outside l.bytes
