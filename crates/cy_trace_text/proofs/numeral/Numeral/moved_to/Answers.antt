use Rattle.std.proofs.Common.{◌+◌, arith}
use Rattle.cy_trace_text.proofs.Keeping.{nine_fits, moved_kept, moved_fit}
use Rattle.cy_trace_text.proofs.numeral.Numeral.moved_to.Goals as goal

pub overflow_mul-is_last_9 : goal.overflow_mul-is_last_9
overflow_mul-is_last_9 c =
    let this = c.args.self.now in
    omega (arith, nine_fits this.number this.digits this.unit this.len c.from.result this.kept c.from.ensures)

pub overflow_add-result : goal.overflow_add-result
overflow_add-result c =
    let this = c.args.self.now in
    let moved = moved_kept this.number c.args.number this.digits this.unit this.len c.from.result this.kept c.if-number-self-2.false c.from.ensures c.if-is_last_9.false in
    omega (arith, moved_fit c.args.number (this.digits + this.unit) this.unit this.len moved)

pub invariant_of-result : goal.invariant_of-result
invariant_of-result c =
    let this = c.args.self.now in
    record {
      kept = moved_kept this.number c.args.number this.digits this.unit this.len c.from.result this.kept c.if-number-self-2.false c.from.ensures c.if-is_last_9.false;
    }
