use Rattle.std.proofs.Common.{◌≡◌, ◌/◌, ◌^◌, arith}
use Rattle.cy_value.proofs.Shifts.{none_left}
use Rattle.cy_value.proofs.scaled.lowered.Goals as goal

pub returns-then-by-ge128 : goal.returns-then-by-ge128
returns-then-by-ge128 c =
    let none : c.args.number / 2 ^ c.args.by ≡ 0 =
    none_left c.args.number c.args.by (omega arith) (omega arith) in
    omega arith
