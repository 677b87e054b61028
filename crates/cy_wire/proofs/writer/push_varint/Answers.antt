use Rattle.std.proofs.Common.{rules, append_assoc, refl, ap, arith, length}
use Rattle.cy_wire.proofs.Varints.{varint_bytes-large, length-varint_bytes}
use Rattle.cy_wire.proofs.writer.push_varint.Goals as goal

pub loop-rest-init : goal.loop-rest-init
loop-rest-init c = record {
  bytes = refl;
  room = omega (arith, length-varint_bytes c.args.value);
  capacity = refl;
}

pub loop-rest-preserved : goal.loop-rest-preserved
loop-rest-preserved c =
    let large = varint_bytes-large c.loop-rest.rest (omega arith) (omega arith) in
    record {
      bytes = rw (c.push_reserved.ensures.items, append_assoc) (rw (← large) c.loop-rest.invariant.bytes);
      room = omega (arith, ap length large, c.push_reserved.ensures.len, c.loop-rest.invariant.room);
      capacity = search rules;
    }
