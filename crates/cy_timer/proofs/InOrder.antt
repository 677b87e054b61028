-- Messages ordered by time are those that they were, in a stable order.
use Rattle.std.proofs.Common.{ℕ, ◌+◌, ◌≡◌, ◌≤◌, ◌<◌, Bool, true, false, cond, not, List, [], ◌∷◌, length, get_or, refl, sym, ◌∙◌, arith, nat_cmp, Less, Equal, Greater}
use Rattle.std.specs.Prelude.{filter, nat_lt, ◌==◌}
use Rattle.std.specs.List.Sorted.{IsPermutation, ties}
use Rattle.std.specs.Ordering.{is_lt}
use Rattle.std.proofs.lemmas.Bool.{and_parts, le-ltb, ltb-false, not-true}
use Rattle.std.proofs.lemmas.List.Sorted.{IsPermutation-cons, IsPermutation-middle, IsPermutation-refl, IsPermutation-trans}
use Rattle.std.proofs.lemmas.Option.{slice_get-get_or}
use Rattle.cy_msg.specs.declared.token.Token.{Token}
use Rattle.cy_timer.specs.Laws.{IsInOrder}
use Rattle.cy_timer.specs.Merged.{by_time, placed}
use Rattle.cy_timer.proofs.Sorting.{Each, From, Rises, by_time-same, filter-by_time, rises-by_time, timed-from_rises}

moved : (t : Token) (xs : List Token) → IsPermutation (t ∷ xs) (placed t xs)
moved t [] = IsPermutation-refl (t ∷ [])
moved t (x ∷ xs) = by_test (moved t xs) (nat_lt x.time t.time)
  where
    by_test : IsPermutation (t ∷ xs) (placed t xs) → (b : Bool) → IsPermutation (t ∷ x ∷ xs) (cond b (x ∷ placed t xs) (t ∷ x ∷ xs))
    by_test rest true = IsPermutation-trans (t ∷ x ∷ xs) (x ∷ t ∷ xs) (x ∷ placed t xs) (IsPermutation-middle (t ∷ []) x xs) (IsPermutation-cons x (t ∷ xs) (placed t xs) rest)
    by_test rest false = IsPermutation-refl (t ∷ x ∷ xs)

all-moved : (xs : List Token) → IsPermutation xs (by_time xs)
all-moved [] = IsPermutation-refl []
all-moved (x ∷ xs) = IsPermutation-trans (x ∷ xs) (x ∷ by_time xs) (placed x (by_time xs)) (IsPermutation-cons x xs (by_time xs) (all-moved xs)) (moved x (by_time xs))

-- a comparison that gives Less
less-is : (b d : Bool) → is_lt (cond b Less (cond d Equal Greater)) ≡ b
less-is true d = refl
less-is false true = refl
less-is false false = refl

nat_cmp-ltb : (m n : ℕ) → is_lt (nat_cmp m n) ≡ nat_lt m n
nat_cmp-ltb m n = less-is (nat_lt m n) (m == n)

-- one is before another
abbrev before : Token → Token → Bool
before s t = is_lt (nat_cmp s.time t.time)

sorted : (xs : List Token) → Rises xs → (k : ℕ) (d : Token) → 0 ≤ k → k + 1 < length xs → before (get_or xs (k + 1) d) (get_or xs k d) ≡ false
sorted xs rises k d from less =
    let here = slice_get-get_or xs k d (omega (arith, less)) in
    let next = slice_get-get_or xs (k + 1) d less in
    let timed = timed-from_rises xs rises k (get_or xs k d) (get_or xs (k + 1) d) here next in
    nat_cmp-ltb (get_or xs (k + 1) d).time (get_or xs k d).time ∙ le-ltb (get_or xs (k + 1) d).time (get_or xs k d).time timed

-- messages of one time stay
passing : (p : Token → Bool) (xs : List Token) → Each (λ u. p u ≡ true) (filter p xs)
passing p [] = tt
passing p (x ∷ xs) = by_test (passing p xs) (p x) refl
  where
    by_test : Each (λ u. p u ≡ true) (filter p xs) → (b : Bool) → p x ≡ b → Each (λ u. p u ≡ true) (cond b (x ∷ filter p xs) (filter p xs))
    by_test rest true is = (is, rest)
    by_test rest false is = rest

same-time : (x u : Token) → ties before x u ≡ true → u.time ≡ x.time
same-time x u tie =
    let parts = and_parts (not (before x u)) (not (before u x)) tie in
    let from = ltb-false x.time u.time (sym (nat_cmp-ltb x.time u.time) ∙ not-true (before x u) parts.0) in
    let upto = ltb-false u.time x.time (sym (nat_cmp-ltb u.time x.time) ∙ not-true (before u x) parts.1) in
    omega (arith, from, upto)

each-from : (x t : Token) (xs : List Token) → t.time ≡ x.time → Each (λ u. ties before x u ≡ true) xs → Each (From t.time) xs
each-from x t [] is all = tt
each-from x t (u ∷ xs) is all = let same = same-time x u all.0 in (omega (arith, is, same), each-from x t xs is all.1)

ties-rise : (x : Token) (xs : List Token) → Each (λ u. ties before x u ≡ true) xs → Rises xs
ties-rise x [] all = tt
ties-rise x (t ∷ xs) all = (each-from x t xs (same-time x t all.0) all.1, ties-rise x xs all.1)

stays : (xs : List Token) (x : Token) → filter (ties before x) (by_time xs) ≡ filter (ties before x) xs
stays xs x =
    filter-by_time (ties before x) xs ∙ by_time-same (filter (ties before x) xs) (ties-rise x (filter (ties before x) xs) (passing (ties before x) xs))

pub in_order : (xs : List Token) → IsInOrder xs (by_time xs)
in_order xs = record { same = all-moved xs; sorted = sorted (by_time xs) (rises-by_time xs); stable = stays xs }
