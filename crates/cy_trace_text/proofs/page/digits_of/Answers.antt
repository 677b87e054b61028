use Rattle.std.proofs.Common.{◌/◌, arith}
use Rattle.std.proofs.lemmas.Fmt.{length-decimal-le}
use Rattle.itoa.proofs.Decimal.{length_four}
use Rattle.cy_trace_text.proofs.page.digits_of.Goals as goal

pub overflow_add-result : goal.overflow_add-result
overflow_add-result c = omega (arith, length-decimal-le 20 (c.args.number / 10000) (omega arith) (omega arith) (omega arith))

pub returns-then-front-lt10000 : goal.returns-then-front-lt10000
returns-then-front-lt10000 c = omega (arith, length_four c.args.number (omega arith) (omega arith))

pub returns : goal.returns
returns c = omega (arith, length_four c.args.number (omega arith) (omega arith))
