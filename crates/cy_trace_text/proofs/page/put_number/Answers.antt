use Rattle.std.proofs.Common.{ap, ◌+◌, arith}
use Rattle.std.specs.Fmt.{decimal}
use Rattle.std.proofs.lemmas.Fmt.{length-decimal-le}
use Rattle.cy_trace_text.proofs.Pages.{written_up_to}
use Rattle.cy_trace_text.proofs.page.put_number.Goals as goal

pub overflow_add-end : goal.overflow_add-end
overflow_add-end c = omega (arith, length-decimal-le 20 c.args.number (omega arith) (omega arith) (omega arith))

pub write_digits-requires : goal.write_digits-requires
write_digits-requires c =
    let long = length-decimal-le 20 c.args.number (omega arith) (omega arith) (omega arith) in
    (omega arith, omega arith)

pub returns-clause-text : goal.returns-clause-text
returns-clause-text c =
    let written = c.write_digits.ensures in
    written_up_to c.args.at c.write_digits.result (c.args.at + c.digits_of.result) (decimal c.args.number) c.args.page.now c.write_digits.new.buf written.start (ap (λ k. c.args.at + k) c.digits_of.ensures) written.written written.before

pub returns-clause-end : goal.returns-clause-end
returns-clause-end c = omega (arith, length-decimal-le 20 c.args.number (omega arith) (omega arith) (omega arith))
