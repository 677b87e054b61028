use Rattle.std.proofs.Common.{arith}
use Rattle.std.proofs.lemmas.Fmt.{length-decimal-le}
use Rattle.itoa.proofs.Decimal.{length_four}
use Rattle.cy_trace_text.proofs.page.more_digits_of.Goals as goal

pub overflow_add-count : goal.overflow_add-count
overflow_add-count c = omega (arith, length-decimal-le 20 c.args.number (omega arith) (omega arith) (omega arith))

pub loop-rest-preserved : goal.loop-rest-preserved
loop-rest-preserved c =
    let l = c.loop-rest in
    omega (arith, length_four l.rest c.loop-rest-test.true l.auto.rest-fits.fits)

pub overflow_add-result : goal.overflow_add-result
overflow_add-result c = omega (arith, length-decimal-le 20 c.args.number (omega arith) (omega arith) (omega arith))

pub returns-clause-few : goal.returns-clause-few
returns-clause-few c = omega (arith, length-decimal-le 20 c.args.number (omega arith) (omega arith) (omega arith))
