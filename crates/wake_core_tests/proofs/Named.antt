-- Names that are not there yet.
use Rattle.std.proofs.Common.{ℕ, zero, suc, ◌≡◌, ◌<◌, arith, List, [], ◌∷◌, ◌++◌, slice_index_or, subst, ap}
use Rattle.std.specs.List.{Contains}

-- A third name is none of two others.
pub third : (names : List (List ℕ)) (x y z : List ℕ) → names ≡ ([] ++ y ∷ []) ++ z ∷ [] → (y ≡ x → ⊥) → (z ≡ x → ⊥) → Contains names x → ⊥
third names x y z is first second there = let h : Contains (y ∷ z ∷ []) x = subst (λ l. Contains l x) is there in at h.0 h.1 h.2
  where
    at : (k : ℕ) → k < 2 → slice_index_or (y ∷ z ∷ []) k x ≡ x → ⊥
    at zero within same = first same
    at (suc zero) within same = second same
    at (suc (suc k)) within same = absurd (omega arith)

-- A slash and a letter; such names are others where the letters are.
abbrev named : ℕ → List ℕ
named letter = 47 ∷ letter ∷ []

other_letter : (a b : ℕ) → a < b → named a ≡ named b → ⊥
other_letter a b less e = let same : a ≡ b = ap (λ l. slice_index_or l 1 0) e in omega arith

pub a_is_not_o : named 97 ≡ named 111 → ⊥
a_is_not_o = other_letter 97 111 (omega arith)

pub b_is_not_o : named 98 ≡ named 111 → ⊥
b_is_not_o = other_letter 98 111 (omega arith)
