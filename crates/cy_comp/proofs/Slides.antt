-- The sum of the last values, as another one comes.
use Rattle.std.proofs.Common.{◌≡◌, ℕ, zero, suc, ◌-◌, ◌^◌, ◌<◌, ◌≤◌, Bool, true, false, ℤ, pos, ◌+ℤ◌, ◌-ℤ◌, FitsSigned, to_z, of_z, List, [], ◌∷◌, ◌++◌, length, drop, slice_get, Option, Some, None, if◌then◌else◌, nat_lt, refl, sym, ap, ◌∙◌, arith, length-append, length-drop}
use Rattle.std.specs.Option.{unwrap_or}
use Rattle.std.proofs.lemmas.Int.{ints, to_z-of_z}
use Rattle.std.proofs.lemmas.Bool.Decides.{nat_tests}
use Rattle.std.proofs.lemmas.Option.{none-some}
use Rattle.std.specs.Int.{w64, w128}
use Rattle.circular_buffer.specs.Buffer.{Buffer, buffer, keep_last}
use Rattle.cy_comp.specs.Step.{sum_of}
use Rattle.cy_comp.specs.private.Sums.{IsNear}

-- each value is a signed number of 64 bits
abbrev pub AreSmall : List ℤ → Type 0
AreSmall values = (k : ℕ) (v : ℤ) → slice_get values k ≡ Some v → FitsSigned w64 v

pub sum_of-append : (values : List ℤ) (v : ℤ) → sum_of (values ++ v ∷ []) ≡ sum_of values +ℤ v
sum_of-append [] v = omega (arith, ints)
sum_of-append (x ∷ rest) v = omega (arith, ints, sum_of-append rest v)

sum_of-near : (values : List ℤ) → AreSmall values → IsNear (length values) (sum_of values)
sum_of-near [] small = record { low = omega (arith, ints); high = omega (arith, ints) }
sum_of-near (x ∷ rest) small =
    let fits : FitsSigned w64 x = small 0 x refl in
    let more = sum_of-near rest (λ k v e. small (suc k) v e) in
    record { low = omega (arith, ints, more.low, fits); high = omega (arith, ints, more.high, fits) }

-- the sum of at most so many values
pub near_of : (n : ℕ) (values : List ℤ) (sum : ℤ) → AreSmall values → length values ≤ n → n < 2 ^ 32 → sum ≡ sum_of values → IsNear (2 ^ 32) sum
near_of n values sum small few range e =
    let near = sum_of-near values small in
    record { low = omega (arith, ints, near.low); high = omega (arith, ints, near.high) }

small-append : (values : List ℤ) (v : ℤ) → AreSmall values → FitsSigned w64 v → AreSmall (values ++ v ∷ [])
small-append [] v small fits zero w e = let same : v ≡ w = cc in rw (← same) fits
small-append [] v small fits (suc k) w e = absurd (none-some w e)
small-append (x ∷ rest) v small fits zero w e = small 0 w e
small-append (x ∷ rest) v small fits (suc k) w e = small-append rest v (λ i u h. small (suc i) u h) fits k w e

small-drop : (n : ℕ) (values : List ℤ) → AreSmall values → AreSmall (drop n values)
small-drop zero values small = small
small-drop (suc n) [] small = small
small-drop (suc n) (x ∷ rest) small = small-drop n rest (λ i u h. small (suc i) u h)

-- the last values after one more, and their sum
pub record IsSlid (n : ℕ) (b : Buffer ℤ) (sum : ℤ) : Type 0 where
  pub few : length b.items ≤ n
  pub summed : sum ≡ sum_of b.items
  pub small : AreSmall b.items

-- where there is room, none leaves
with_room : (n : ℕ) (old : List ℤ) (v : ℤ) → length old < n → sum_of (keep_last n (old ++ v ∷ [])) ≡ sum_of old +ℤ v
with_room n old v room = let none : length (old ++ v ∷ []) - n ≡ 0 = omega (arith, length-append old (v ∷ [])) in
    ap (λ k. sum_of (drop k (old ++ v ∷ []))) none ∙ sum_of-append old v

-- where there is none, the first one leaves
without_room : (n : ℕ) (old : List ℤ) (v : ℤ) → length old ≡ n
    → sum_of (keep_last n (old ++ v ∷ [])) ≡ sum_of old -ℤ unwrap_or (slice_get (old ++ v ∷ []) 0) (pos 0) +ℤ v
without_room n old v full = let one : length (old ++ v ∷ []) - n ≡ 1 = omega (arith, length-append old (v ∷ [])) in
    ap (λ k. sum_of (drop k (old ++ v ∷ []))) one ∙ first_leaves old
  where
    first_leaves : (old : List ℤ) → sum_of (drop 1 (old ++ v ∷ [])) ≡ sum_of old -ℤ unwrap_or (slice_get (old ++ v ∷ []) 0) (pos 0) +ℤ v
    first_leaves [] = omega (arith, ints)
    first_leaves (x ∷ rest) = omega (arith, ints, sum_of-append rest v)

left_out : (n : ℕ) (old : List ℤ) (v : ℤ) (b : Bool) → nat_lt (length old) n ≡ b → length old ≤ n
    → sum_of (keep_last n (old ++ v ∷ [])) ≡ sum_of old -ℤ unwrap_or (if b then None else slice_get (old ++ v ∷ []) 0) (pos 0) +ℤ v
left_out n old v true room few = let below : length old < n = grind (arith, nat_tests) in with_room n old v below ∙ omega (arith, ints)
left_out n old v false room few = let full : length old ≡ n = grind (arith, nat_tests) in without_room n old v full

pub slid : (n capacity : ℕ) (old : List ℤ) (sum v w left next : ℤ) (b : Buffer ℤ) (popped : Option ℤ) → capacity ≡ n → length old ≤ n → sum ≡ sum_of old → AreSmall old
    → FitsSigned w64 v → w ≡ v → b ≡ buffer (keep_last capacity (old ++ w ∷ [])) capacity
    → popped ≡ (if nat_lt (length old) capacity then None else slice_get (old ++ w ∷ []) 0) → left ≡ unwrap_or popped (pos 0) → next ≡ sum -ℤ left +ℤ v
    → IsSlid n b next
slid n capacity old sum v w left next b popped sized few summed small fits same kept out l s =
    let items : b.items ≡ keep_last n (old ++ v ∷ []) = ap (λ (x : Buffer ℤ). x.items) kept ∙ ap (λ c. keep_last c (old ++ w ∷ [])) sized ∙ ap (λ u. keep_last n (old ++ u ∷ [])) same in
    let gone : popped ≡ (if nat_lt (length old) n then None else slice_get (old ++ v ∷ []) 0) =
    out ∙ ap (λ c. if nat_lt (length old) c then None else slice_get (old ++ w ∷ []) 0) sized ∙ ap (λ u. if nat_lt (length old) n then None else slice_get (old ++ u ∷ []) 0) same in
    let leaves : left ≡ unwrap_or (if nat_lt (length old) n then None else slice_get (old ++ v ∷ []) 0) (pos 0) = l ∙ ap (λ o. unwrap_or o (pos 0)) gone in
    record {
      few = omega (arith, ap length items, length-drop (length (old ++ v ∷ []) - n) (old ++ v ∷ []));
      summed = s ∙ ap (λ x. x -ℤ left +ℤ v) summed ∙ ap (λ x. sum_of old -ℤ x +ℤ v) leaves ∙ sym (left_out n old v _ refl few) ∙ sym (ap sum_of items);
      small = rw items (small-drop (length (old ++ v ∷ []) - n) (old ++ v ∷ []) (small-append old v small fits));
    }

-- the sum that is kept is that of the parameters
pub moved_to : (sum left v next : ℤ) → FitsSigned w128 sum → FitsSigned w64 left → FitsSigned w64 v → FitsSigned w128 next
    → next ≡ to_z w128 (of_z w128 sum) -ℤ to_z w64 (of_z w64 left) +ℤ to_z w64 (of_z w64 v) → to_z w128 (of_z w128 next) ≡ sum -ℤ left +ℤ v
moved_to sum left v next s l f n e = to_z-of_z w128 next n ∙ (simp to_z-of_z at e)
