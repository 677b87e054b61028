-- What stands at places of lists.
use Rattle.std.proofs.Common.{ℕ, zero, suc, ◌≡◌, ◌<◌, ◌+◌, ◌⊎◌, inl, inr, Bool, true, false, cond, List, [], ◌∷◌, ◌++◌, length, take, map, slice_get, Some, None, refl, sym, ap, ◌∙◌, arith}
use Rattle.std.specs.Prelude.{filter}
use Rattle.std.proofs.lemmas.List.{take_all}
use Rattle.std.proofs.lemmas.Option.{same_Some, none-some}

module _ {X : Type 0} where
  pub heads_same : (x y : X) (xs ys : List X) → x ∷ xs ≡ y ∷ ys → x ≡ y
  heads_same x y xs ys h = cc

  pub tails_same : (x y : X) (xs ys : List X) → x ∷ xs ≡ y ∷ ys → xs ≡ ys
  tails_same x y xs ys h = cc

  pub nil_not : (x : X) (xs : List X) → [] ≡ x ∷ xs → ⊥
  nil_not x xs h = cc

  -- Lists that begin alike and have the same at the next place begin alike up to behind it.
  pub take_next : (i : ℕ) (xs ys : List X) → take i xs ≡ take i ys → slice_get xs i ≡ slice_get ys i → take (suc i) xs ≡ take (suc i) ys
  take_next i [] [] begins at = refl
  take_next zero [] (y ∷ ys) begins at = absurd (none-some y at)
  take_next (suc i) [] (y ∷ ys) begins at = absurd (nil_not y (take i ys) begins)
  take_next zero (x ∷ xs) [] begins at = absurd (none-some x (sym at))
  take_next (suc i) (x ∷ xs) [] begins at = absurd (nil_not x (take i xs) (sym begins))
  take_next zero (x ∷ xs) (y ∷ ys) begins at = ap (λ z. z ∷ []) (same_Some x y at)
  take_next (suc i) (x ∷ xs) (y ∷ ys) begins at =
      ap (λ z. z ∷ take (suc i) xs) (heads_same x y (take i xs) (take i ys) begins)
      ∙ ap (λ zs. y ∷ zs) (take_next i xs ys (tails_same x y (take i xs) (take i ys) begins) at)

  -- Lists that begin alike as far as you will are one.
  pub all_taken : (xs ys : List X) → ((i : ℕ) → take i xs ≡ take i ys) → xs ≡ ys
  all_taken xs ys same =
      let most = length xs + length ys in
      sym (take_all most xs (omega arith)) ∙ same most ∙ take_all most ys (omega arith)

  -- What passes a test stands, among those that pass, behind those before it.
  pub passes_next : (p : X → Bool) (xs : List X) (i : ℕ) (x : X) → slice_get xs i ≡ Some x → p x ≡ true → slice_get (filter p xs) (length (filter p (take i xs))) ≡ Some x
  passes_next p [] i x at is = absurd (none-some x at)
  passes_next p (y ∷ xs) zero x at is =
      let same : y ≡ x = same_Some y x at in
      ap (λ b. slice_get (cond b (y ∷ filter p xs) (filter p xs)) 0) (ap p same ∙ is) ∙ at
  passes_next p (y ∷ xs) (suc i) x at is = by (p y) (passes_next p xs i x at is)
    where
      by : (b : Bool) → slice_get (filter p xs) (length (filter p (take i xs))) ≡ Some x
          → slice_get (cond b (y ∷ filter p xs) (filter p xs)) (length (cond b (y ∷ filter p (take i xs)) (filter p (take i xs)))) ≡ Some x
      by true h = h
      by false h = h

  -- What stands among those that pass a test passes it.
  pub passed : (p : X → Bool) (xs : List X) (k : ℕ) (x : X) → slice_get (filter p xs) k ≡ Some x → p x ≡ true
  passed p [] k x at = absurd (none-some x at)
  passed p (y ∷ xs) k x at = by (p y) refl (λ k. passed p xs k x) k at
    where
      by : (b : Bool) → p y ≡ b → ((k : ℕ) → slice_get (filter p xs) k ≡ Some x → p x ≡ true) → (k : ℕ) → slice_get (cond b (y ∷ filter p xs) (filter p xs)) k ≡ Some x → p x ≡ true
      by true e rest zero is = ap p (sym (same_Some y x is)) ∙ e
      by true e rest (suc k) is = rest k is
      by false e rest k is = rest k is

  -- What stands in two lists on end stands in one of them.
  pub in_parts : (xs ys : List X) (n : ℕ) (x : X) → slice_get (xs ++ ys) n ≡ Some x → (slice_get xs n ≡ Some x) ⊎ ((k : ℕ) × (slice_get ys k ≡ Some x))
  in_parts [] ys n x at = inr (n, at)
  in_parts (y ∷ xs) ys zero x at = inl at
  in_parts (y ∷ xs) ys (suc n) x at = in_parts xs ys n x at

module _ {X Y : Type 0} (f : X → Y) where
  -- Where two lists are mapped to one, each place of the one has its like in the other.
  pub mapped_like : (xs ys : List X) → map f xs ≡ map f ys → (n : ℕ) (x : X) → slice_get xs n ≡ Some x → (y : X) × (slice_get ys n ≡ Some y) × (f x ≡ f y)
  mapped_like [] ys same n x at = absurd (none-some x at)
  mapped_like (z ∷ xs) [] same n x at = absurd (nil_not (f z) (map f xs) (sym same))
  mapped_like (z ∷ xs) (y ∷ ys) same zero x at = (y, refl, ap f (sym (same_Some z x at)) ∙ heads_same (f z) (f y) (map f xs) (map f ys) same)
  mapped_like (z ∷ xs) (y ∷ ys) same (suc n) x at = mapped_like xs ys (tails_same (f z) (f y) (map f xs) (map f ys) same) n x at

  -- Past the end of the one is past the end of the other.
  pub mapped_past : (xs ys : List X) → map f xs ≡ map f ys → (n : ℕ) → slice_get xs n ≡ None → slice_get ys n ≡ None
  mapped_past xs [] same n at = refl
  mapped_past [] (y ∷ ys) same n at = absurd (nil_not (f y) (map f ys) same)
  mapped_past (x ∷ xs) (y ∷ ys) same zero at = absurd (none-some x (sym at))
  mapped_past (x ∷ xs) (y ∷ ys) same (suc n) at = mapped_past xs ys (tails_same (f x) (f y) (map f xs) (map f ys) same) n at

-- Below its length a list has something at each place, and its first ones have it too.
pub something : {X : Type 0} (xs : List X) (n : ℕ) → n < length xs → (x : X) × (slice_get xs n ≡ Some x)
something [] n less = absurd (omega (arith, less))
something (x ∷ xs) zero less = (x, refl)
something (x ∷ xs) (suc n) less = something xs n (omega (arith, less))

pub among_first : {X : Type 0} (xs : List X) (n : ℕ) (x : X) → slice_get xs n ≡ Some x → slice_get (take (suc n) xs) n ≡ Some x
among_first [] n x at = absurd (none-some x at)
among_first (y ∷ xs) zero x at = at
among_first (y ∷ xs) (suc n) x at = among_first xs n x at
