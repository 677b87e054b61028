use Rattle.std.proofs.Common.{◌≡◌, ◌++◌, ◌+◌, ◌≤◌, length, vec_len, vec_capacity}
use Rattle.cy_wire.specs.Wire.{varint_bytes}
use Rattle.cy_wire.proofs.writer.push_varint.Given as goal

abbrev pub invariant-loop-rest : goal.invariant-loop-rest
invariant-loop-rest l = record {
  bytes : l.out.items ++ varint_bytes l.rest ≡ l.fn.out.items ++ varint_bytes l.value;
  room : vec_len l.out + length (varint_bytes l.rest) ≤ vec_len l.fn.out + 10;
  capacity : vec_capacity l.out ≡ vec_capacity l.fn.out;
}

abbrev pub decreases-loop-rest : goal.decreases-loop-rest
decreases-loop-rest l = l.rest
