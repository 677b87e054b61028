use Rattle.std.proofs.Common.{sym, arith}
use Rattle.cy_wire.specs.Field.{seen}
use Rattle.cy_section.proofs.Numbers.{kept, not_kept, no_number}
use Rattle.cy_section.proofs.read.keep_number.Goals as goal

pub returns-in_default : goal.returns-in_default
returns-in_default c = λ k few. no_number c.args.numbers.now (seen c.args.field.now) (sym c.in_default.ensures) k

pub returns-then-number-lt-NUMBERS : goal.returns-then-number-lt-NUMBERS
returns-then-number-lt-NUMBERS c = λ k few.
    kept c.args.numbers.now (seen c.args.field.now) c.in-Some.value (sym c.in-Some.ensures) (omega arith) k

pub returns-else-number-lt-NUMBERS : goal.returns-else-number-lt-NUMBERS
returns-else-number-lt-NUMBERS c = λ k few. not_kept c.args.numbers.now (seen c.args.field.now) (omega arith) k few
