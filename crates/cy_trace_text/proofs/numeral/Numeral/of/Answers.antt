use Rattle.std.proofs.Common.{arith}
use Rattle.cy_trace_text.proofs.Keeping.{few_digits, some_digits, read_kept}
use Rattle.cy_trace_text.proofs.numeral.Numeral.of.Goals as goal

pub write_digits-requires : goal.write_digits-requires
write_digits-requires c = (omega arith, omega (arith, few_digits c.args.number c.if-number-ge-TOO_LONG.false))

pub overflow_sub-result : goal.overflow_sub-result
overflow_sub-result c = omega (arith, some_digits c.args.number c.if-number-ge-TOO_LONG.false)

pub invariant_of-result : goal.invariant_of-result
invariant_of-result c =
    let written = c.write_digits.ensures in
    record {
      kept = read_kept c.args.number c.from_le_bytes.result c.digits_of-len.result c.write_digits.result c.write_digits.new.buf c.if-number-ge-TOO_LONG.false c.digits_of-len.ensures written.start written.written c.from_le_bytes.ensures;
    }
