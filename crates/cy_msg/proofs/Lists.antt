-- Lists that got one more element, what is among them, and other small lemmas.
use Rattle.std.proofs.Common.{ℕ, zero, suc, ◌+◌, ◌≡◌, ◌≢◌, ◌⊎◌, ◌≤◌, ◌<◌, Bool, true, false, refl, ◌∙◌, ap, subst, inl, inr, arith, List, [], ◌∷◌, ◌++◌, length, Some, None, ◌||◌, slice_get, take, le_of_lt}
use Rattle.std.proofs.lemmas.Bool.Decides.{eqb_tells}
use Rattle.std.proofs.lemmas.Option.{slice_get_within}
use Rattle.std.proofs.lemmas.List.{take-append-le}
use Rattle.std.proofs.Math.Seq.{take-append_seam}

-- What stands in a list stands in a longer one.
pub get_append : {X : Type 0} (xs ys : List X) (n : ℕ) (x : X) → slice_get xs n ≡ Some x → slice_get (xs ++ ys) n ≡ Some x
get_append [] ys n x e = cc
get_append (y ∷ xs) ys zero x e = e
get_append (y ∷ xs) ys (suc n) x e = get_append xs ys n x e

-- What stands in a list with one more stood there before, or is that one.
pub get_snoc : {X : Type 0} (xs : List X) (y : X) (n : ℕ) (x : X) → slice_get (xs ++ y ∷ []) n ≡ Some x
    → (slice_get xs n ≡ Some x) ⊎ ((n ≡ length xs) × (y ≡ x))
get_snoc [] y zero x e = inr (refl, cc)
get_snoc [] y (suc n) x e = cc
get_snoc (z ∷ xs) y zero x e = inl e
get_snoc (z ∷ xs) y (suc n) x e = elim (get_snoc xs y n x e) [ inl h ↦ inl h | inr h ↦ inr (ap suc h.0, h.1) ]

-- What the first of a list have at a place the list has there.
pub get_taken : {X : Type 0} (xs : List X) (k n : ℕ) (x : X) → slice_get (take k xs) n ≡ Some x → slice_get xs n ≡ Some x
get_taken xs zero n x e = cc
get_taken [] (suc k) n x e = cc
get_taken (y ∷ xs) (suc k) zero x e = e
get_taken (y ∷ xs) (suc k) (suc n) x e = get_taken xs k n x e

pub get_last : {X : Type 0} (xs : List X) (y : X) → slice_get (xs ++ y ∷ []) (length xs) ≡ Some y
get_last [] y = refl
get_last (x ∷ xs) y = get_last xs y

-- What is said of each by those before it holds of one more.
pub snoc_at : {X : Type 0} (P : List X → X → Type 0) (xs : List X) (y : X)
    → ((n : ℕ) (x : X) → slice_get xs n ≡ Some x → P (take n xs) x) → P xs y
    → (n : ℕ) (x : X) → slice_get (xs ++ y ∷ []) n ≡ Some x → P (take n (xs ++ y ∷ [])) x
snoc_at P xs y old new n x e = elim (get_snoc xs y n x e) [
  | inl h ↦ let l : n ≤ length xs = le_of_lt (slice_get_within xs n x h) in rw (take-append-le n xs (y ∷ []) l) (old n x h)
  | inr h ↦ subst (λ z. P (take n (xs ++ y ∷ [])) z) h.1 (rw (h.0, take-append_seam xs (y ∷ [])) new)
]

-- The first so many and one more.
take_suc : {X : Type 0} (xs : List X) (n : ℕ) (x : X) → slice_get xs n ≡ Some x → take (suc n) xs ≡ take n xs ++ x ∷ []
take_suc [] n x e = cc
take_suc (y ∷ xs) zero x e = cc
take_suc (y ∷ xs) (suc n) x e = ap (λ l. y ∷ l) (take_suc xs n x e)

pub take_next : {X : Type 0} (xs : List X) (n : ℕ) (x : X) → slice_get xs n ≡ Some x → take (n + 1) xs ≡ take n xs ++ x ∷ []
take_next xs n x e = let more : n + 1 ≡ suc n = omega arith in ap (λ k. take k xs) more ∙ take_suc xs n x e

-- One behind the last is there only where the list is longer.
pub get_in : {X : Type 0} (xs : List X) (n : ℕ) → n < length xs → slice_get xs n ≢ None
get_in [] n l = λ e. absurd (omega arith)
get_in (x ∷ xs) zero l = λ e. cc
get_in (x ∷ xs) (suc n) l = get_in xs n (omega arith)

-- What stands at a place of a list.
pub there : {X : Type 0} (xs : List X) (n : ℕ) → n < length xs → (x : X) × (slice_get xs n ≡ Some x)
there [] n l = absurd (omega arith)
there (x ∷ xs) zero l = (x, refl)
there (x ∷ xs) (suc n) l = there xs n (omega arith)

-- One place, or another.
pub place : (k i : ℕ) → (k ≡ i) ⊎ (k ≢ i)
place k i = elim (eqb_tells k i) [ inl h ↦ inl h.1 | inr h ↦ inr h.1 ]

-- What one of two says, or neither.
pub or_false : (a b : Bool) → a || b ≡ false → (a ≡ false) × (b ≡ false)
or_false true b e = cc
or_false false b e = (refl, e)

pub or_right : (a b : Bool) → b ≡ true → a || b ≡ true
or_right true b e = refl
or_right false b e = e

pub either : (a b : Bool) → a || b ≡ true → (a ≡ true) ⊎ (b ≡ true)
either true b e = inl refl
either false b e = inr e
