use Rattle.std.proofs.Common.{sym, arith}
use Rattle.itoa.proofs.Decimal.{length_one, length_two}
use Rattle.cy_trace_text.proofs.Pages.{three_digits, four_digits}
use Rattle.cy_trace_text.proofs.page.few_digits_of.Goals as goal

pub returns-in-0-to-9 : goal.returns-in-0-to-9
returns-in-0-to-9 c = sym (length_one c.args.number (omega arith))

pub returns-in-10-to-99 : goal.returns-in-10-to-99
returns-in-10-to-99 c = sym (length_two c.args.number (omega arith) (omega arith))

pub returns-in-100-to-999 : goal.returns-in-100-to-999
returns-in-100-to-999 c = sym (three_digits c.args.number (omega arith) (omega arith))

pub returns-in_default : goal.returns-in_default
returns-in_default c = sym (four_digits c.args.number (omega arith) c.requires)
