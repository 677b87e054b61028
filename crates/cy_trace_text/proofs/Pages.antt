-- A text written into an array, and how many digits a number has.
use Rattle.std.proofs.Common.{ℕ, ◌+◌, ◌/◌, ◌<◌, ◌≤◌, ◌≡◌, ◌∙◌, ap, sym, List, ◌++◌, length, take, drop, arith}
use Rattle.std.proofs.Math.Seq.{take-add, take-append_seam}
use Rattle.std.specs.Fmt.{decimal}
use Rattle.itoa.proofs.Decimal.{length_one, length_two, length_pair}

-- A text written up to a place is behind what stands in front of it.
pub written_up_to : (at start end : ℕ) (text old new : List ℕ) → start + length text ≡ end → end ≡ at + length text → drop start new ≡ text ++ drop end old → take start new ≡ take start old → take end new ≡ take at old ++ text
written_up_to at start end text old new ends long written before =
    let same : start ≡ at = omega (arith, ends, long) in
    ap (λ n. take n new) (sym ends)
    ∙ take-add start (length text) new
    ∙ ap (λ (l : List ℕ). take start new ++ take (length text) l) written
    ∙ ap (λ (l : List ℕ). take start new ++ l) (take-append_seam text (drop end old))
    ∙ ap (λ (l : List ℕ). l ++ text) (before ∙ ap (λ n. take n old) same)

pub three_digits : (n : ℕ) → 100 ≤ n → n < 1000 → length (decimal n) ≡ 3
three_digits n low high =
    let pair = length_pair n low (omega (arith, high)) in
    let one = length_one (n / 100) (omega (arith, high)) in
    omega (arith, pair, one)

pub four_digits : (n : ℕ) → 1000 ≤ n → n < 10000 → length (decimal n) ≡ 4
four_digits n low high =
    let pair = length_pair n (omega (arith, low)) (omega (arith, high)) in
    let two = length_two (n / 100) (omega (arith, low)) (omega (arith, high)) in
    omega (arith, pair, two)
