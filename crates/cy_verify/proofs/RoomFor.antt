-- How many arrivals there are, by how many there are of each reader.
use Rattle.std.proofs.Common.{ℕ, zero, suc, ◌+◌, ◌-◌, ◌≡◌, ◌≢◌, ◌⊎◌, ◌≤◌, ◌<◌, Bool, true, false, refl, sym, ◌∙◌, ap, inl, inr, arith, List, [], ◌∷◌, length, Some, slice_get, filter, map, sum, ◌==◌, cond}
use Rattle.std.proofs.lemmas.Bool.Decides.{eqb_tells}
use Rattle.std.proofs.lemmas.List.{length-map}
use Rattle.std.proofs.lemmas.List.Sums.{sum_by-cons}
use Rattle.cy_msg.proofs.Lists.{place, there}
use Rattle.cy_fuse.specs.Fusion.{Arrival}
use Rattle.wake_core.specs.Plain.{of_role}

one : {X : Type 0} {a b : X} → Some a ≡ Some b → a ≡ b
one e = cc

sum_cons : (n : ℕ) (caps : List ℕ) → sum (n ∷ caps) ≡ n + sum caps
sum_cons n caps = sum_by-cons (λ n. n) n caps

-- One less at a place.
abbrev lowered : List ℕ → ℕ → List ℕ
lowered [] i = []
lowered (n ∷ caps) zero = (n - 1) ∷ caps
lowered (n ∷ caps) (suc i) = n ∷ lowered caps i

lowered_length : (caps : List ℕ) (i : ℕ) → length (lowered caps i) ≡ length caps
lowered_length [] i = refl
lowered_length (n ∷ caps) zero = refl
lowered_length (n ∷ caps) (suc i) = ap suc (lowered_length caps i)

lowered_sum : (caps : List ℕ) (i n : ℕ) → slice_get caps i ≡ Some n → 1 ≤ n → sum caps ≡ sum (lowered caps i) + 1
lowered_sum [] i n e l = cc
lowered_sum (m ∷ caps) zero n e l = let same : m ≡ n = one e in omega (arith, same, l, sum_cons m caps, sum_cons (m - 1) caps)
lowered_sum (m ∷ caps) (suc i) n e l = omega (arith, lowered_sum caps i n e l, sum_cons m caps, sum_cons m (lowered caps i))

lowered_own : (caps : List ℕ) (i m : ℕ) → slice_get (lowered caps i) i ≡ Some m → (n : ℕ) × (slice_get caps i ≡ Some n) × (m ≡ n - 1)
lowered_own [] i m e = cc
lowered_own (n ∷ caps) zero m e = (n, refl, sym (one e))
lowered_own (n ∷ caps) (suc i) m e = lowered_own caps i m e

lowered_other : (caps : List ℕ) (i j m : ℕ) → j ≢ i → slice_get (lowered caps i) j ≡ Some m → slice_get caps j ≡ Some m
lowered_other [] i j m n e = e
lowered_other (x ∷ caps) zero zero m n e = absurd (n refl)
lowered_other (x ∷ caps) zero (suc j) m n e = e
lowered_other (x ∷ caps) (suc i) zero m n e = e
lowered_other (x ∷ caps) (suc i) (suc j) m n e = lowered_other caps i j m (λ s. n (ap suc s)) e

of_role_same : (j : ℕ) (a : Arrival) (rest : List Arrival) → a.0 ≡ j → length (of_role j (a ∷ rest)) ≡ length (of_role j rest) + 1
of_role_same j a rest e = elim (eqb_tells a.0 j) [
  | inl h ↦ ap (λ (b : Bool). length (map (λ (x : Arrival). x.1) (cond b (a ∷ filter (λ x. x.0 == j) rest) (filter (λ x. x.0 == j) rest)))) h.0 ∙ omega arith
  | inr h ↦ absurd (h.1 e)
]

of_role_apart : (j : ℕ) (a : Arrival) (rest : List Arrival) → length (of_role j rest) ≤ length (of_role j (a ∷ rest))
of_role_apart j a rest = by (a.0 == j)
  where
    by : (b : Bool) → length (of_role j rest) ≤ length (map (λ (x : Arrival). x.1) (cond b (a ∷ filter (λ x. x.0 == j) rest) (filter (λ x. x.0 == j) rest)))
    by true = omega arith
    by false = omega arith

room_caps : (arrivals : List Arrival) (caps : List ℕ) → ((n : ℕ) (a : Arrival) → slice_get arrivals n ≡ Some a → a.0 < length caps)
    → ((j n : ℕ) → slice_get caps j ≡ Some n → length (of_role j arrivals) ≤ n) → length arrivals ≤ sum caps
room_caps [] caps known few = omega arith
room_caps (a ∷ rest) caps known few =
    let cap = there caps a.0 (known 0 a refl) in
    let here = few a.0 cap.0 cap.1 in
    let some = of_role_same a.0 a rest refl in
    let less = room_caps rest (lowered caps a.0) (λ n b e. let k = known (suc n) b e in omega (arith, k, lowered_length caps a.0)) (λ j m e. by j m e (place j a.0)) in
    omega (arith, less, lowered_sum caps a.0 cap.0 cap.1 (omega (arith, here, some)))
  where
    by : (j m : ℕ) → slice_get (lowered caps a.0) j ≡ Some m → (j ≡ a.0) ⊎ (j ≢ a.0) → length (of_role j rest) ≤ m
    by j m e (inl s) =
        let own = lowered_own caps a.0 m (ap (slice_get (lowered caps a.0)) (sym s) ∙ e) in
        let all = few a.0 own.0 own.1 in
        let same = ap (λ k. length (of_role k rest)) s in
        omega (arith, all, own.2, of_role_same a.0 a rest refl, same)
    by j m e (inr n) =
        let all = few j m (lowered_other caps a.0 j m n e) in
        omega (arith, all, of_role_apart j a rest)

-- No more come to all readers than can come to each.
pub room_for : (f : ℕ → ℕ) (readers : List ℕ) (arrivals : List Arrival) → ((n : ℕ) (a : Arrival) → slice_get arrivals n ≡ Some a → a.0 < length readers)
    → ((j channel : ℕ) → slice_get readers j ≡ Some channel → length (of_role j arrivals) ≤ f channel) → length arrivals ≤ sum (map f readers)
room_for f readers arrivals known few =
    room_caps arrivals (map f readers) (λ n a e. let k = known n a e in omega (arith, k, length-map readers f)) (λ j n e. let c = unmapped readers j n e in let l = few j c.0 c.1 in omega (arith, l, c.2))
  where
    unmapped : (xs : List ℕ) (j n : ℕ) → slice_get (map f xs) j ≡ Some n → (c : ℕ) × (slice_get xs j ≡ Some c) × (n ≡ f c)
    unmapped [] j n e = cc
    unmapped (x ∷ xs) zero n e = (x, refl, sym (one e))
    unmapped (x ∷ xs) (suc j) n e = unmapped xs j n e
