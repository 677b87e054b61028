-- A list in which nothing stands twice, as it grows.
use Rattle.std.proofs.Common.{ℕ, zero, suc, ◌≡◌, ◌⊎◌, List, [], ◌∷◌, ◌++◌, length, slice_get, slice_index_or, Option, Some, None, IfSome, refl, sym, ap, ◌∙◌, inl, inr, arith}
use Rattle.std.specs.List.{Contains, position}
use Rattle.std.specs.Str.{bytes_eq}
use Rattle.std.proofs.lemmas.List.Quantifiers.{position-Some}
use Rattle.std.proofs.lemmas.Slice.Eq.{bytes_eq-Decides}
use Rattle.std.proofs.lemmas.Option.{same_Some, none-some, slice_get_within, get_or_from_slice_get, slice_get-get_or}
use Rattle.cy_msg.specs.Once.{IsOnce}

-- What a list with one more element has at its end.
pub slice_get-push : {A : Type 0} (xs : List A) (y : A) → slice_get (xs ++ y ∷ []) (length xs) ≡ Some y
slice_get-push [] y = refl
slice_get-push (x ∷ xs) y = slice_get-push xs y

-- What a list has at a place it has there with one more element too.
pub slice_get-push_kept : {A : Type 0} (xs : List A) (y : A) (n : ℕ) (z : A) → slice_get xs n ≡ Some z → slice_get (xs ++ y ∷ []) n ≡ Some z
slice_get-push_kept [] y n z h = absurd (none-some z h)
slice_get-push_kept (x ∷ xs) y zero z h = h
slice_get-push_kept (x ∷ xs) y (suc n) z h = slice_get-push_kept xs y n z h

-- What such a list has at a place is what the list had, or the new element.
pub slice_get-push_cases : {A : Type 0} (xs : List A) (y : A) (n : ℕ) (z : A) → slice_get (xs ++ y ∷ []) n ≡ Some z → (slice_get xs n ≡ Some z) ⊎ ((n ≡ length xs) × (y ≡ z))
slice_get-push_cases [] y zero z h = inr (refl, same_Some y z h)
slice_get-push_cases [] y (suc n) z h = absurd (none-some z h)
slice_get-push_cases (x ∷ xs) y zero z h = inl h
slice_get-push_cases (x ∷ xs) y (suc n) z h = elim (slice_get-push_cases xs y n z h) [ inl g ↦ inl g | inr g ↦ inr (ap suc g.0, g.1) ]

-- What stands at a place of a list is in it.
pub Contains-from_slice_get : {A : Type 0} (xs : List A) (n : ℕ) (x : A) → slice_get xs n ≡ Some x → Contains xs x
Contains-from_slice_get xs n x h = (n, slice_get_within xs n x h, get_or_from_slice_get xs n x x h)

-- An element that isn't in the list may go to its end.
pub IsOnce-push : {A : Type 0} (xs : List A) (y : A) → IsOnce xs → ¬ (Contains xs y) → IsOnce (xs ++ y ∷ [])
IsOnce-push {A} xs y once absent m n x p q =
    elim (slice_get-push_cases xs y m x p) [
      | inl a ↦ elim (slice_get-push_cases xs y n x q) [
        | inl b ↦ once m n x a b
        | inr b ↦ absurd (absent (Contains-from_slice_get xs m y (rw b.1 a)))
      ]
      | inr a ↦ elim (slice_get-push_cases xs y n x q) [
        | inl b ↦ absurd (absent (Contains-from_slice_get xs n y (rw a.1 b)))
        | inr b ↦ omega (arith, a.0, b.0)
      ]
    ]

-- At the first place of a name, if it has one, stands the name.
pub slice_get-position : (xs : List (List ℕ)) (name : List ℕ) (r : Option ℕ) → r ≡ position (λ x. bytes_eq x name) xs → IfSome r (λ n. slice_get xs n ≡ Some name)
slice_get-position xs name None h = tt
slice_get-position xs name (Some n) h =
    let found = position-Some (λ x. bytes_eq x name) xs n name (sym h) in
    slice_get-get_or xs n name found.0 ∙ ap Some ((bytes_eq-Decides (slice_index_or xs n name) name).0 found.1)
