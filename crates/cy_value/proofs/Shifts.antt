-- Products with powers of two, and quotients by them.
use Rattle.std.proofs.Common.{◌≡◌, inl, inr, min, ℕ, zero, suc, ◌%◌, ◌+◌, ◌-◌, ◌*◌, ◌/◌, ◌^◌}
use Rattle.std.proofs.Common.{◌<◌, ◌≤◌, refl, sym, ap, ◌∙◌, arith}
use Rattle.std.proofs.Math.Nat.{div-eq_of_lt}
use Rattle.std.proofs.lemmas.Bool.{cases_lt}
use Rattle.std.proofs.Math.Pow.{pow_mono}
use Rattle.std.proofs.lemmas.Nat.{pow_pos, pow-add, shl-shr, shr-shr, mul-le, shl_whole}

-- the exponent outweighs the places
pub outweighs : (n e p : ℕ) → p ≤ e → n * 2 ^ e / 2 ^ p ≡ n * 2 ^ (e - p)
outweighs n e p h =
    let whole : e ≡ (e - p) + p = omega arith in
    let moved : n * 2 ^ ((e - p) + p) ≡ n * 2 ^ (e - p) * 2 ^ p =
    grind (arith, pow-add 2 (e - p) p) in
    ap (λ (k : ℕ). n * 2 ^ k / 2 ^ p) whole ∙ ap (λ (m : ℕ). m / 2 ^ p) moved
    ∙ shl-shr (n * 2 ^ (e - p)) p

-- the places outweigh the exponent
pub outweighed : (n e p : ℕ) → e ≤ p → n * 2 ^ e / 2 ^ p ≡ n / 2 ^ (p - e)
outweighed n e p h =
    let whole : p ≡ e + (p - e) = omega arith in
    ap (λ (k : ℕ). n * 2 ^ e / 2 ^ k) whole ∙ sym (shr-shr (n * 2 ^ e) e (p - e))
    ∙ ap (λ (m : ℕ). m / 2 ^ (p - e)) (shl-shr n e)

-- a product that passes 2 ^ 63
pub passes_by_power : (n k : ℕ) → 0 < n → 63 ≤ k → 2 ^ 63 ≤ n * 2 ^ k
passes_by_power n k h j =
    let power : 2 ^ 63 ≤ 2 ^ k = pow_mono j in
    let product : 1 * 2 ^ k ≤ n * 2 ^ k =
    mul-le 1 (2 ^ k) n (2 ^ k) (omega arith) (omega arith) in
    omega arith

pub passes_by_number : (n k : ℕ) → 2 ^ 63 ≤ n → 2 ^ 63 ≤ n * 2 ^ k
passes_by_number n k h =
    let some = pow_pos k in
    let product : n * 1 ≤ n * 2 ^ k = mul-le n 1 n (2 ^ k) (omega arith) (omega (arith, some)) in
    omega arith

-- factors above 2 ^ 63 needn't be told apart
both_pass : (a b : ℕ) → 2 ^ 63 ≤ a → 2 ^ 63 ≤ b → min a (2 ^ 63) ≡ min b (2 ^ 63)
both_pass a b h j = omega arith

held_small : (n k : ℕ) → n < 2 ^ 63 → k < 63 → min n (2 ^ 63) * 2 ^ min k 63 ≡ n * 2 ^ k
held_small n k h j =
    let number : min n (2 ^ 63) ≡ n = omega arith in
    let power : min k 63 ≡ k = omega arith in
    rw (number, power) refl

-- the product of the held factors, held again, is the held product
abbrev pub AreHeld : ℕ → ℕ → Type 0
AreHeld n k = min (min n (2 ^ 63) * 2 ^ min k 63) (2 ^ 63) ≡ min (n * 2 ^ k) (2 ^ 63)

held_power : (n k : ℕ) → 0 < n → 63 ≤ k → AreHeld n k
held_power n k h j =
    let held = passes_by_power (min n (2 ^ 63)) (min k 63) (omega arith) (omega arith) in
    both_pass (min n (2 ^ 63) * 2 ^ min k 63) (n * 2 ^ k) held (passes_by_power n k h j)

held_number : (n k : ℕ) → 2 ^ 63 ≤ n → AreHeld n k
held_number n k h =
    let held = passes_by_number (min n (2 ^ 63)) (min k 63) (omega arith) in
    both_pass (min n (2 ^ 63) * 2 ^ min k 63) (n * 2 ^ k) held (passes_by_number n k h)

held_below : (n k : ℕ) → 0 < n → n < 2 ^ 63 → AreHeld n k
held_below n k some small = elim (cases_lt k 63) [
  | inl low ↦ ap (λ (m : ℕ). min m (2 ^ 63)) (held_small n k small low)
  | inr high ↦ held_power n k some high
]

pub held_factors : (n k : ℕ) → AreHeld n k
held_factors zero k = grind arith
held_factors (suc n) k = elim (cases_lt (suc n) (2 ^ 63)) [
  | inl small ↦ held_below (suc n) k (omega arith) small
  | inr large ↦ held_number (suc n) k large
]

-- and they fit
pub fits_shifted : (n k : ℕ) → n ≤ 2 ^ 63 → k ≤ 63 → (n * 2 ^ k) % 2 ^ 128 ≡ n * 2 ^ k
fits_shifted n k h j = shl_whole n 64 k 128 (omega arith) (omega arith)

-- nothing is left of a number of 128 bits
pub none_left : (n k : ℕ) → n < 2 ^ 128 → 128 ≤ k → n / 2 ^ k ≡ 0
none_left n k h j =
    let power : 2 ^ 128 ≤ 2 ^ k = pow_mono j in
    let below : n < 2 ^ k = omega arith in
    div-eq_of_lt below
