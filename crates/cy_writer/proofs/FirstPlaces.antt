-- The first place of a number in a list.
use Rattle.std.proofs.Common.{◌≡◌, ◌≤◌, ℕ, ◌+◌, List, [], ◌∷◌, ◌++◌, length, get_or, refl, ap, sym, ◌∙◌, arith, Some, None, Option, Bool, true, false, cond, length-append, eqb, slice_get, ⊎_elim}
use Rattle.std.specs.Prelude.{◌==◌, not, nat_lt, unwrap_or}
use Rattle.std.specs.List.{list_any, position, position_or_len}
use Rattle.std.proofs.lemmas.Grind.{common_steps}
use Rattle.std.proofs.lemmas.Bool.{cases_Bool}
use Rattle.std.proofs.lemmas.Bool.Decides.{eqb_tells}
use Rattle.std.proofs.lemmas.List.Folds.{list_any_at, Any-from_list_any, position_or_len_push}
use Rattle.std.proofs.lemmas.List.Sums.{prefix_len-le-length, fails_before_first}
use Rattle.std.proofs.lemmas.List.Quantifiers.{position-Some}
use Rattle.std.proofs.lemmas.Option.{slice_get-get_or, slice_get_within, get_or_from_slice_get}

pub eqb_same : (n : ℕ) → eqb n n ≡ true
eqb_same n = ⊎_elim (λ t. t.0) (λ f. absurd (f.1 refl)) (eqb_tells n n)

-- the test of a number has its first place where the number stands
pub first_place : (c : ℕ) (order : List ℕ) (i : ℕ) → position (λ other. c == other) order ≡ Some i → slice_get order i ≡ Some c
first_place c order i e =
    let at = position-Some (λ other. c == other) order i 0 e in
    slice_get-get_or order i 0 at.0 ∙ ap (λ (n : ℕ). Some n) (same c (get_or order i 0) at.1)
  where
    same : (a b : ℕ) → eqb a b ≡ true → b ≡ a
    same a b e = ⊎_elim (λ t. sym t.1) (λ f. absurd (let bad : true ≡ false = sym e ∙ f.0 in cc)) (eqb_tells a b)

-- One more item, by the place that was found before.

skipped : (place n : ℕ) → place ≤ n → cond (nat_lt (cond (eqb place n) (n + 1) place) (n + 1)) (Some (cond (eqb place n) (n + 1) place)) None ≡ cond (nat_lt place n) (Some place) None
skipped place n most = grind (arith, common_steps)

pub position-skipped : {X : Type 0} (p : X → Bool) (xs : List X) (y : X) → p y ≡ false → position p (xs ++ y ∷ []) ≡ position p xs
position-skipped p xs y e =
    let longer : length (xs ++ y ∷ []) ≡ length xs + 1 = omega (arith, length-append xs (y ∷ [])) in
    let pushed : position_or_len p (xs ++ y ∷ []) ≡ cond (eqb (position_or_len p xs) (length xs)) (length xs + 1) (position_or_len p xs)
    = position_or_len_push p xs y ∙ ap (λ (b : Bool). cond (eqb (position_or_len p xs) (length xs)) (length xs + cond b 0 1) (position_or_len p xs)) e in
    rw (pushed, longer) (skipped (position_or_len p xs) (length xs) (prefix_len-le-length (λ x. not (p x)) xs))

added : (place n : ℕ) → place ≤ n → cond (nat_lt place n) (Some place) None ≡ None
    → cond (nat_lt (cond (eqb place n) (n + 0) place) (n + 1)) (Some (cond (eqb place n) (n + 0) place)) None ≡ Some n
added place n most none = grind (arith, common_steps)

pub position-added : {X : Type 0} (p : X → Bool) (xs : List X) (y : X) → position p xs ≡ None → p y ≡ true → position p (xs ++ y ∷ []) ≡ Some (length xs)
position-added p xs y none e =
    let longer : length (xs ++ y ∷ []) ≡ length xs + 1 = omega (arith, length-append xs (y ∷ [])) in
    let pushed : position_or_len p (xs ++ y ∷ []) ≡ cond (eqb (position_or_len p xs) (length xs)) (length xs + 0) (position_or_len p xs)
    = position_or_len_push p xs y ∙ ap (λ (b : Bool). cond (eqb (position_or_len p xs) (length xs)) (length xs + cond b 0 1) (position_or_len p xs)) e in
    rw (pushed, longer) (added (position_or_len p xs) (length xs) (prefix_len-le-length (λ x. not (p x)) xs) none)

-- Where there is no place, nothing passes, and where there is one, something does.

beyond : (place n : ℕ) → cond (nat_lt place n) (Some place) None ≡ None → n ≤ place
beyond place n none = grind (arith, common_steps)

pub absent : (c : ℕ) (order : List ℕ) → position (λ other. c == other) order ≡ None → list_any (λ other. c == other) order ≡ false
absent c order none = ⊎_elim (λ t. absurd (passes t)) (λ f. f) (cases_Bool (list_any (λ other. c == other) order))
  where
    passes : list_any (λ other. c == other) order ≡ true → ⊥
    passes t =
        let there = Any-from_list_any (λ other. c == other) order t in
        let all : length order ≤ position_or_len (λ other. c == other) order = beyond (position_or_len (λ other. c == other) order) (length order) none in
        let fails = fails_before_first (λ other. c == other) order there.0 there.1 (omega (arith, all, there.2)) in
        let bad : true ≡ false = sym there.4 ∙ ap (λ (n : ℕ). eqb c n) (sym there.3) ∙ fails in cc

pub present : (c : ℕ) (order : List ℕ) (i : ℕ) → position (λ other. c == other) order ≡ Some i → list_any (λ other. c == other) order ≡ true
present c order i e =
    let at = first_place c order i e in
    list_any_at (λ other. c == other) order i c (slice_get_within order i c at) (ap (eqb c) (get_or_from_slice_get order i c c at) ∙ eqb_same c)

-- the place of a number that stands in an order
pub place_of : (order : List ℕ) (c : ℕ) → list_any (λ other. c == other) order ≡ true
    → slice_get order (unwrap_or (position (λ other. c == other) order) 0) ≡ Some c
place_of order c any = by (position (λ other. c == other) order) refl
  where
    by : (o : Option ℕ) → position (λ other. c == other) order ≡ o → slice_get order (unwrap_or o 0) ≡ Some c
    by (Some i) e = first_place c order i e
    by None e = absurd (let bad : true ≡ false = sym any ∙ absent c order e in cc)
