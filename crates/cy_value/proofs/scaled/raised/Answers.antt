use Rattle.std.proofs.Common.{◌≡◌, ◌∙◌, ◌*◌, ◌^◌, ℕ, min, ap, arith}
use Rattle.cy_value.proofs.Shifts.{held_factors, fits_shifted}
use Rattle.cy_value.proofs.scaled.raised.Goals as goal

pub returns : goal.returns
returns c =
    let number : c.min.result ≡ min c.args.number (2 ^ 63) = rw c.from.ensures at c.min.ensures in
    let power = c.min-2.ensures in
    let fits = fits_shifted c.min.result c.min-2.result (omega arith) (omega arith) in
    c.at_most.ensures ∙ ap (λ (m : ℕ). min m (2 ^ 63)) fits
    ∙ ap (λ (m : ℕ). min (m * 2 ^ c.min-2.result) (2 ^ 63)) number
    ∙ ap (λ (k : ℕ). min (min c.args.number (2 ^ 63) * 2 ^ k) (2 ^ 63)) power
    ∙ held_factors c.args.number c.args.by
