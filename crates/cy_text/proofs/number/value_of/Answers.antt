use Rattle.std.proofs.Common.{◌≡◌, ◌<◌, ◌≤◌, ◌+◌, ◌*◌, ◌^◌, length, length-drop, drop, get_or, arith, ◌∙◌}
use Rattle.cy_text.specs.Letters.{digit_of}
use Rattle.cy_text.proofs.Values.{exceeds_sum, exceeds_product, from_not_below, last_digit}
use Rattle.cy_text.proofs.number.value_of.Goals as goal

pub returns-in_err-checked_mul : goal.returns-in_err-checked_mul
returns-in_err-checked_mul c =
    let digits = c.args.digits.now in
    let v = c.loop-digit.value in
    let k = c.loop-digit.digit-index in
    let base = c.args.base in
    let some : 0 < length (drop k digits) = omega (arith, length-drop k digits) in
    let large : 2 ^ 64 ≤ v * base = from_not_below (v * base) (2 ^ 64) c.in_err-checked_mul.ensures in
    c.from_residual.ensures ∙ exceeds_product base v (drop k digits) digits c.requires large some c.loop-digit.invariant.reading

pub returns-in_err-value : goal.returns-in_err-value
returns-in_err-value c =
    let v = c.loop-digit.value in
    let base = c.args.base in
    let digit : c.from.result ≡ digit_of (get_or c.args.digits.now c.loop-digit.digit-index 0) = c.from.ensures ∙ c.digit_of.ensures.value in
    let not_below = from_not_below (c.in_ok-checked_mul.field-0 + c.from.result) (2 ^ 64) c.in_err-value.ensures in
    let large : 2 ^ 64 ≤ v * base + c.from.result = omega (arith, not_below, c.in_ok-checked_mul.ensures.1) in
    c.from_residual-in_err-value.ensures ∙ exceeds_sum base v c.loop-digit.digit-index c.from.result c.args.digits.now c.requires c.loop-digit-test.true digit large c.loop-digit.invariant.reading

pub returns : goal.returns
returns c = last_digit c.args.base c.loop-digit.value c.loop-digit.digit-index c.args.digits.now c.loop-digit-test.false c.loop-digit.invariant.fits c.loop-digit.invariant.reading
