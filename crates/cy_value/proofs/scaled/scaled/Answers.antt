use Rattle.std.proofs.Common.{◌∙◌, ◌*◌, ℕ, ◌^◌, min, ap, sym, arith}
use Rattle.cy_value.proofs.Shifts.{outweighs, outweighed}
use Rattle.cy_value.proofs.scaled.scaled.Goals as goal

pub returns-then-exponent-places : goal.returns-then-exponent-places
returns-then-exponent-places c =
    let raised = rw (c.from.ensures, c.from-2.ensures) at c.raised.ensures in
    let number = c.args.digits * c.args.scale in
    let same = outweighs number c.args.exponent c.args.places (omega arith) in
    raised ∙ ap (λ (size : ℕ). min size (2 ^ 63)) (sym same)

pub returns-else-exponent-places : goal.returns-else-exponent-places
returns-else-exponent-places c =
    let lowered = rw (c.from.ensures, c.from-2.ensures) at c.lowered.ensures in
    let number = c.args.digits * c.args.scale in
    let same = outweighed number c.args.exponent c.args.places (omega arith) in
    lowered ∙ ap (λ (size : ℕ). min size (2 ^ 63)) (sym same)
