-- A record has one play list.
use Rattle.std.proofs.Common.{ℕ, suc, ◌+◌, ◌≡◌, ◌≤◌, ◌<◌, Bool, true, false, cond, List, [], ◌∷◌, refl, sym, ap, subst, ◌∙◌, inl, inr, arith}
use Rattle.std.specs.Prelude.{filter, get_or}
use Rattle.std.specs.Cmp.{nat_cmp_is}
use Rattle.std.specs.List.Sorted.{IsSortedByKey, ties}
use Rattle.std.specs.Ordering.{is_lt, nat_cmp}
use Rattle.std.specs.declared.cmp.Ordering.TheVariants as ordering
use Rattle.std.proofs.lemmas.Bool.{cases_order}
use Rattle.std.proofs.lemmas.Map.Keys.{ge_from_not_lt}
use Rattle.cy_msg.specs.declared.play_list.PlayList.{PlayList}
use Rattle.cy_msg.specs.declared.token.Token.{Token}
use Rattle.cy_msg.specs.declared.filter.Filter.{Filter}
use Rattle.cy_timer.specs.Merged.{merged}
use Rattle.cy_timer.specs.Timers.{timers_of}
use Rattle.cy_setup.specs.Listing.{IsListed, choice_of}
use Rattle.cy_setup.specs.Wiring.{Wired}
use Rattle.cy_reader.specs.Record.{Contents}
use Rattle.cy_play_list.specs.Play.{Choice, IsPlayList, number_at, time_at, tokens_behind, value_at}

less : (a b : ℕ) → a < b → is_lt (nat_cmp a b) ≡ true
less a b l = sym (ap is_lt (nat_cmp_is a b ordering.Less l))

not_less : (a b : ℕ) → b ≤ a → is_lt (nat_cmp a b) ≡ false
not_less a b l = elim (cases_order a b) [
  | inl e ↦ sym (ap is_lt (nat_cmp_is a b ordering.Equal e))
  | inr other ↦ elim other [
    | inl low ↦ absurd (omega (arith, l, low))
    | inr high ↦ sym (ap is_lt (nat_cmp_is a b ordering.Greater high))
  ]
]

module _ (key : ℕ → ℕ) where
  abbrev below : ℕ → ℕ → Bool
  below x y = is_lt (nat_cmp (key x) (key y))

  tie_same : (x y : ℕ) → key x ≡ key y → ties below x y ≡ true
  tie_same x y e = rw (not_less (key x) (key y) (omega (arith, e)), not_less (key y) (key x) (omega (arith, e))) refl

  tie_less : (x y : ℕ) → key x < key y → ties below x y ≡ false
  tie_less x y l = rw (less (key x) (key y) l) refl

  tie_more : (x y : ℕ) → key y < key x → ties below x y ≡ false
  tie_more x y l = rw (not_less (key x) (key y) (omega (arith, l)), less (key y) (key x) l) refl

  abbrev Sorted : List ℕ → Type 0
  Sorted xs = IsSortedByKey key nat_cmp xs

  sorted_rest : (x : ℕ) (xs : List ℕ) → Sorted (x ∷ xs) → Sorted xs
  sorted_rest x xs s k d low high =
      let next : suc k + 1 ≡ suc (k + 1) = omega arith in
      subst (λ (n : ℕ). is_lt (nat_cmp (key (get_or (x ∷ xs) n d)) (key (get_or (x ∷ xs) (suc k) d))) ≡ false) next (s (suc k) d (omega arith) (omega (arith, high)))

  next_above : (x y : ℕ) (xs : List ℕ) → Sorted (x ∷ y ∷ xs) → key x ≤ key y
  next_above x y xs s = ge_from_not_lt (key y) (key x) (s 0 x (omega arith) (omega arith))

  -- nothing ties that is below the first
  none_ties : (x y : ℕ) (ys : List ℕ) → Sorted (y ∷ ys) → key x < key y → filter (ties below x) (y ∷ ys) ≡ []
  none_ties x y [] s l = rw (tie_less x y l) refl
  none_ties x y (z ∷ zs) s l =
      let rest = none_ties x z zs (sorted_rest y (z ∷ zs) s) (omega (arith, l, next_above y z zs s)) in
      ap (λ (t : Bool). cond t (y ∷ filter (ties below x) (z ∷ zs)) (filter (ties below x) (z ∷ zs))) (tie_less x y l) ∙ rest

  first_ties : (x : ℕ) (xs : List ℕ) → filter (ties below x) (x ∷ xs) ≡ x ∷ filter (ties below x) xs
  first_ties x xs = ap (λ (t : Bool). cond t (x ∷ filter (ties below x) xs) (filter (ties below x) xs)) (tie_same x x refl)

  abbrev SameTies : List ℕ → List ℕ → Type 0
  SameTies xs ys = (z : ℕ) → filter (ties below z) xs ≡ filter (ties below z) ys

  first_same : (x y : ℕ) (xs ys : List ℕ) → Sorted (x ∷ xs) → Sorted (y ∷ ys) → SameTies (x ∷ xs) (y ∷ ys) → x ≡ y
  first_same x y xs ys s t same = elim (cases_order (key x) (key y)) [
    | inl e ↦
        let second = ap (λ (t : Bool). cond t (y ∷ filter (ties below x) ys) (filter (ties below x) ys)) (tie_same x y e) in
        let h : x ∷ filter (ties below x) xs ≡ y ∷ filter (ties below x) ys = sym (first_ties x xs) ∙ same x ∙ second in
        cc
    | inr other ↦ elim other [
      | inl low ↦
          let h : x ∷ filter (ties below x) xs ≡ [] = sym (first_ties x xs) ∙ same x ∙ none_ties x y ys t low in
          absurd cc
      | inr high ↦
          let h : y ∷ filter (ties below y) ys ≡ [] = sym (first_ties y ys) ∙ sym (same y) ∙ none_ties y x xs s high in
          absurd cc
    ]
  ]

  rest_same : (x : ℕ) (xs ys : List ℕ) → SameTies (x ∷ xs) (x ∷ ys) → SameTies xs ys
  rest_same x xs ys same z = by (ties below z x) (same z)
    where
      by : (t : Bool) → cond t (x ∷ filter (ties below z) xs) (filter (ties below z) xs) ≡ cond t (x ∷ filter (ties below z) ys) (filter (ties below z) ys) → filter (ties below z) xs ≡ filter (ties below z) ys
      by true e = cc
      by false e = e

  -- what is sorted stably is one list
  pub one_order : (xs ys : List ℕ) → Sorted xs → Sorted ys → SameTies xs ys → xs ≡ ys
  one_order [] [] s t same = refl
  one_order [] (y ∷ ys) s t same = absurd (let h : [] ≡ y ∷ filter (ties below y) ys = same y ∙ first_ties y ys in cc)
  one_order (x ∷ xs) [] s t same = absurd (let h : x ∷ filter (ties below x) xs ≡ [] = sym (first_ties x xs) ∙ same x in cc)
  one_order (x ∷ xs) (y ∷ ys) s t same =
      let first = first_same x y xs ys s t same in
      let again : SameTies (x ∷ xs) (x ∷ ys) = subst (λ (z : ℕ). SameTies (x ∷ xs) (z ∷ ys)) (sym first) same in
      let rest = one_order xs ys (sorted_rest x xs s) (sorted_rest y ys t) (rest_same x xs ys again) in
      ap (λ (l : List ℕ). x ∷ l) rest ∙ ap (λ (z : ℕ). z ∷ ys) first

-- two play lists of a record are one
pub record SameList (a b : PlayList) : Type 0 where
  pub places : a.places ≡ b.places
  pub tokens : a.tokens ≡ b.tokens
  pub shadowed : a.shadowed ≡ b.shadowed

one_list : (whole : Contents) (choice : Choice) (a b : PlayList) → IsPlayList whole choice a → IsPlayList whole choice b → SameList a b
one_list whole choice a b p q =
    let places = one_order (time_at whole) a.places b.places p.order.by_time q.order.by_time (λ z. p.order.stable z ∙ sym (q.order.stable z)) in
    record {
      places = places;
      tokens = p.tokens ∙ ap (tokens_behind (number_at whole choice) (value_at whole choice) whole []) places ∙ sym q.tokens;
      shadowed = p.shadowed ∙ sym q.shadowed;
    }

-- and so are two with ticks among their messages
pub one_listed : (whole : Contents) (filter : Filter) (w : Wired) (a b : PlayList) → IsListed whole filter w a → IsListed whole filter w b → SameList a b
one_listed whole filter w a b p q =
    let same = one_list whole (choice_of filter w) p.messages q.messages p.chosen q.chosen in
    record {
      places = p.merged.places ∙ same.places ∙ sym q.merged.places;
      tokens = p.merged.tokens ∙ ap (λ (ts : List Token). merged ts (timers_of w.plans)) same.tokens ∙ sym q.merged.tokens;
      shadowed = p.merged.shadowed ∙ same.shadowed ∙ sym q.merged.shadowed;
    }
