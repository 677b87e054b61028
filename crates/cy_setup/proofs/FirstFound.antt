-- The first element that fits, one element after another, where a store tells its files.
use Rattle.std.proofs.Common.{◌≡◌, ℕ, ◌+◌, ◌<◌, zero, suc, List, [], ◌∷◌, length, take, map, find, Bool, true, false, cond, Option, Some, None, IfSome, refl, sym, ap, subst, ◌∙◌, arith, slice_index_or}

skipped : {B : Type 0} (b : Bool) (y : B) (r : Option B) → cond b (Some y) r ≡ None → (b ≡ false) × (r ≡ None)
skipped true y r e = absurd cc
skipped false y r e = (refl, e)

module _ {A B : Type 0} (p : B → Bool) (f : A → B) where
  found_at : (xs : List A) (n : ℕ) (d : A) → n < length xs → find p (map f (take n xs)) ≡ None → p (f (slice_index_or xs n d)) ≡ true → Some (f (slice_index_or xs n d)) ≡ find p (map f xs)
  found_at [] n d h none fits = absurd (omega (arith, h))
  found_at (x ∷ xs) zero d h none fits = sym (ap (λ b. cond b (Some (f x)) (find p (map f xs))) fits)
  found_at (x ∷ xs) (suc n) d h none fits =
      let s = skipped (p (f x)) (f x) (find p (map f (take n xs))) none in
      found_at xs n d (omega (arith, h)) s.1 fits ∙ sym (ap (λ b. cond b (Some (f x)) (find p (map f xs))) s.0)

  none_yet : (xs : List A) (n : ℕ) (d : A) → n < length xs → find p (map f (take n xs)) ≡ None → p (f (slice_index_or xs n d)) ≡ false → find p (map f (take (suc n) xs)) ≡ None
  none_yet [] n d h none misses = absurd (omega (arith, h))
  none_yet (x ∷ xs) zero d h none misses = ap (λ b. cond b (Some (f x)) None) misses
  none_yet (x ∷ xs) (suc n) d h none misses =
      let s = skipped (p (f x)) (f x) (find p (map f (take n xs))) none in
      ap (λ b. cond b (Some (f x)) (find p (map f (take (suc n) xs)))) s.0 ∙ none_yet xs n d (omega (arith, h)) s.1 misses

  -- where the store tells its files, which this call doesn't change
  module _ {F : Type 0} (files mid : Option F) (same : mid ≡ files) (xs : List A) (n : ℕ) (d : A) (result : Bool) where
    both : {P Q R : Type 0} (told : Option F) → (P → Q → R) → IfSome told (λ _. P) → IfSome told (λ _. Q) → IfSome told (λ _. R)
    both None h a b = tt
    both (Some m) h a b = h a b

    said : IfSome mid (λ _. result ≡ p (f (slice_index_or xs n d))) → IfSome files (λ _. result ≡ p (f (slice_index_or xs n d)))
    said told = subst (λ (o : Option F). IfSome o (λ _. result ≡ p (f (slice_index_or xs n d)))) same told

    pub told_found : n < length xs → IfSome files (λ _. find p (map f (take n xs)) ≡ None) → IfSome mid (λ _. result ≡ p (f (slice_index_or xs n d))) → result ≡ true
        → IfSome files (λ _. Some (f (slice_index_or xs n d)) ≡ find p (map f xs))
    told_found h none told fits = both files (λ a b. found_at xs n d h a (sym b ∙ fits)) none (said told)

    pub told_none : n < length xs → IfSome files (λ _. find p (map f (take n xs)) ≡ None) → IfSome mid (λ _. result ≡ p (f (slice_index_or xs n d))) → result ≡ false
        → IfSome files (λ _. find p (map f (take (n + 1) xs)) ≡ None)
    told_none h none told misses =
        let next : suc n ≡ n + 1 = omega arith in
        both files (λ a b. subst (λ k. find p (map f (take k xs)) ≡ None) next (none_yet xs n d h a (sym b ∙ misses))) none (said told)
