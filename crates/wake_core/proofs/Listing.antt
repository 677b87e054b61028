-- Whether numbers are among those of a list that got one more.
use Rattle.std.proofs.Common.{ℕ, ◌+◌, ◌≡◌, ◌≢◌, ◌⊎◌, Bool, true, false, refl, sym, ◌∙◌, ap, ap₂, inl, inr, arith, List, [], ◌∷◌, ◌++◌, None, ◌==◌, ◌||◌}
use Rattle.std.proofs.lemmas.Bool.Decides.{nat_tests}
use Rattle.cy_msg.proofs.Lists.{or_false, or_right, either}
use Rattle.wake_core.specs.Plain.{lists}

pub lists-append : (k : ℕ) (xs ys : List ℕ) → lists k (xs ++ ys) ≡ lists k xs || lists k ys
lists-append k [] ys = refl
lists-append k (x ∷ xs) ys = ap (λ b. x == k || b) (lists-append k xs ys) ∙ or_assoc (x == k) (lists k xs) (lists k ys)
  where
    or_assoc : (a b c : Bool) → a || (b || c) ≡ (a || b) || c
    or_assoc true b c = refl
    or_assoc false b c = refl

-- None of a whole is none of its parts.
pub lists_parts : (k : ℕ) (xs ys : List ℕ) → lists k (xs ++ ys) ≡ false → (lists k xs ≡ false) × (lists k ys ≡ false)
lists_parts k xs ys e = or_false (lists k xs) (lists k ys) (sym (lists-append k xs ys) ∙ e)

pub lists_whole : (k c : ℕ) (xs ys : List ℕ) → k ≢ c → lists k (xs ++ ys) ≡ false → lists k (xs ++ c ∷ ys) ≡ false
lists_whole k c [] ys n e = grind (arith, nat_tests, e)
lists_whole k c (x ∷ xs) ys n e =
    let h = or_false (x == k) (lists k (xs ++ ys)) e in
    ap₂ (λ a b. a || b) h.0 (lists_whole k c xs ys n h.1)

-- One of a part is one of the whole.
pub lists_left : (k : ℕ) (xs ys : List ℕ) → lists k xs ≡ true → lists k (xs ++ ys) ≡ true
lists_left k [] ys e = cc
lists_left k (x ∷ xs) ys e = elim (either (x == k) (lists k xs) e) [
  | inl h ↦ ap (λ b. b || lists k (xs ++ ys)) h
  | inr h ↦ or_right (x == k) (lists k (xs ++ ys)) (lists_left k xs ys h)
]

pub lists_wider : (k c : ℕ) (xs ys : List ℕ) → lists k (xs ++ ys) ≡ true → lists k (xs ++ c ∷ ys) ≡ true
lists_wider k c [] ys e = or_right (c == k) (lists k ys) e
lists_wider k c (x ∷ xs) ys e = elim (either (x == k) (lists k (xs ++ ys)) e) [
  | inl h ↦ ap (λ b. b || lists k (xs ++ c ∷ ys)) h
  | inr h ↦ or_right (x == k) (lists k (xs ++ c ∷ ys)) (lists_wider k c xs ys h)
]

-- One of a list with one more is that one, or was there.
pub lists_snoc : (k c : ℕ) (xs : List ℕ) → lists k (xs ++ c ∷ []) ≡ true → (lists k xs ≡ true) ⊎ (k ≡ c)
lists_snoc k c xs e = elim (either (lists k xs) (lists k (c ∷ [])) (sym (lists-append k xs (c ∷ [])) ∙ e)) [
  | inl h ↦ inl h
  | inr h ↦ inr (only k c h)
]
  where
    only : (k c : ℕ) → lists k (c ∷ []) ≡ true → k ≡ c
    only k c h = grind (arith, nat_tests, h)

pub lists_first : (c : ℕ) (xs : List ℕ) → lists c (c ∷ xs) ≡ true
lists_first c xs = grind (arith, nat_tests)

pub lists_rest : (k c : ℕ) (xs : List ℕ) → lists k xs ≡ true → lists k (c ∷ xs) ≡ true
lists_rest k c xs e = or_right (c == k) (lists k xs) e
