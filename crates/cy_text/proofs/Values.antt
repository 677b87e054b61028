-- The value of digits, one by one.
use Rattle.std.proofs.Common.{ℕ, ◌≡◌, ◌+◌, ◌*◌, ◌^◌, ◌<◌, ◌≤◌, List, [], ◌∷◌, length, drop, get_or, inl, inr, Some, None, arith}
use Rattle.std.proofs.lemmas.Grind.{common_steps}
use Rattle.std.proofs.lemmas.List.{drop_more}
use Rattle.std.proofs.lemmas.Bool.{cases_lt}
use Rattle.std.proofs.Math.ListN.{drop_of_length-le}
use Rattle.cy_text.specs.Letters.{digit_of}
use Rattle.cy_text.specs.Numbers.{value_from, value_of}

grown : (v base d : ℕ) → 0 < base → v ≤ v * base + d
grown v base d h = grind arith

-- more digits make no smaller number
value_at_least : (base v : ℕ) (ds : List ℕ) → 0 < base → v ≤ value_from base v ds
value_at_least base v [] h = omega arith
value_at_least base v (d ∷ ds) h = omega (arith, grown v base (digit_of d) h, value_at_least base (v * base + digit_of d) ds h)

-- a number that is too large
pub exceeds : (base v : ℕ) (rest ds : List ℕ) → 0 < base → 2 ^ 64 ≤ v → value_from base v rest ≡ value_from base 0 ds → None ≡ value_of base ds
unfolding value_of
exceeds base v rest ds h large e =
    let whole : 2 ^ 64 ≤ value_from base 0 ds = omega (arith, value_at_least base v rest h, e) in
    grind (arith, common_steps, whole)

-- no digit is left
pub last_digit : (base v k : ℕ) (ds : List ℕ) → length ds ≤ k → v < 2 ^ 64 → value_from base v (drop k ds) ≡ value_from base 0 ds → Some v ≡ value_of base ds
unfolding value_of
last_digit base v k ds ends fits e =
    let whole : v ≡ value_from base 0 ds = rw (drop_of_length-le ds ends) at e in
    grind (arith, common_steps, whole)

-- its product with the base alone is too large
pub exceeds_product : (base v : ℕ) (rest ds : List ℕ) → 0 < base → 2 ^ 64 ≤ v * base → 0 < length rest → value_from base v rest ≡ value_from base 0 ds → None ≡ value_of base ds
exceeds_product base v [] ds h large some e = absurd (omega arith)
exceeds_product base v (d ∷ rest) ds h large some e = exceeds base (v * base + digit_of d) rest ds h (omega (arith, large)) e

-- or its sum with the next digit
pub exceeds_sum : (base v k n : ℕ) (ds : List ℕ) → 0 < base → k < length ds → n ≡ digit_of (get_or ds k 0) → 2 ^ 64 ≤ v * base + n
    → value_from base v (drop k ds) ≡ value_from base 0 ds → None ≡ value_of base ds
exceeds_sum base v k n ds h there digit large e =
    exceeds base (v * base + digit_of (get_or ds k 0)) (drop (k + 1) ds) ds h (rw digit at large) (rw (drop_more ds k 0 there) at e)

pub from_not_below : (m n : ℕ) → (m < n → ⊥) → n ≤ m
from_not_below m n h = elim (cases_lt m n) [ inl small ↦ absurd (h small) | inr large ↦ large ]
