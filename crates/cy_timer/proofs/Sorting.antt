-- Messages ordered by time.
use Rattle.std.proofs.Common.{ℕ, zero, suc, ◌+◌, ◌≡◌, ◌≤◌, ◌<◌, Bool, true, false, cond, List, [], ◌∷◌, ◌++◌, length, slice_get, Some, refl, sym, ap, ◌∙◌, subst, arith}
use Rattle.std.specs.Prelude.{filter, nat_lt}
use Rattle.std.specs.List.{AllByRecursion}
use Rattle.std.proofs.lemmas.Bool.{ltb-false, ltb-true, lt-ltb, le-ltb}
use Rattle.std.proofs.lemmas.Option.{none-some, same_Some}
use Rattle.cy_msg.specs.declared.token.Token.{Token}
use Rattle.cy_msg.specs.Tokens.{IsTimed}
use Rattle.cy_timer.specs.Merged.{by_time, placed}

-- P of each
abbrev pub Each : {X : Type 0} → (X → Type 0) → List X → Type 0
Each = AllByRecursion

module _ {X : Type 0} where
  pub each-weaker : (P Q : X → Type 0) → ((x : X) → P x → Q x) → (xs : List X) → Each P xs → Each Q xs
  each-weaker P Q f [] h = tt
  each-weaker P Q f (x ∷ xs) h = (f x h.0, each-weaker P Q f xs h.1)

  pub each-append : (P : X → Type 0) (xs ys : List X) → Each P xs → Each P ys → Each P (xs ++ ys)
  each-append P [] ys h k = k
  each-append P (x ∷ xs) ys h k = (h.0, each-append P xs ys h.1 k)

  pub each-at : (P : X → Type 0) (xs : List X) (n : ℕ) (x : X) → Each P xs → slice_get xs n ≡ Some x → P x
  each-at P [] n x h e = absurd (none-some x e)
  each-at P (y ∷ xs) zero x h e = subst P (same_Some y x e) h.0
  each-at P (y ∷ xs) (suc n) x h e = each-at P xs n x h.1 e

  pub each-from : (P : X → Type 0) (xs : List X) → ((n : ℕ) (x : X) → slice_get xs n ≡ Some x → P x) → Each P xs
  each-from P [] f = tt
  each-from P (x ∷ xs) f = (f 0 x refl, each-from P xs (λ n. f (suc n)))

  pub each-filter : (p : X → Bool) (P : X → Type 0) (xs : List X) → Each P xs → Each P (filter p xs)
  each-filter p P [] h = tt
  each-filter p P (x ∷ xs) h = by_test (each-filter p P xs h.1) (p x)
    where
      by_test : Each P (filter p xs) → (b : Bool) → Each P (cond b (x ∷ filter p xs) (filter p xs))
      by_test rest true = (h.0, rest)
      by_test rest false = rest

-- not before, behind
abbrev pub From : ℕ → Token → Type 0
From time u = time ≤ u.time

abbrev pub Behind : ℕ → Token → Type 0
Behind time u = time < u.time

pub each-placed : (P : Token → Type 0) (t : Token) (xs : List Token) → P t → Each P xs → Each P (placed t xs)
each-placed P t [] here all = (here, tt)
each-placed P t (x ∷ xs) here all = by_test (each-placed P t xs here all.1) (nat_lt x.time t.time)
  where
    by_test : Each P (placed t xs) → (b : Bool) → Each P (cond b (x ∷ placed t xs) (t ∷ x ∷ xs))
    by_test rest true = (all.0, rest)
    by_test rest false = (here, all)

pub each-by_time : (P : Token → Type 0) (xs : List Token) → Each P xs → Each P (by_time xs)
each-by_time P [] all = tt
each-by_time P (x ∷ xs) all = each-placed P x (by_time xs) all.0 (each-by_time P xs all.1)

-- no message is before an earlier one
abbrev pub Rises : List Token → Type 0
Rises [] = Unit {0}
Rises (t ∷ rest) = Each (From t.time) rest × Rises rest

-- where a message is placed
pub placed-front : (t : Token) (xs : List Token) → Each (From t.time) xs → placed t xs ≡ t ∷ xs
placed-front t [] all = refl
placed-front t (x ∷ xs) all = ap (λ (b : Bool). cond b (x ∷ placed t xs) (t ∷ x ∷ xs)) (le-ltb x.time t.time all.0)

pub placed-behind : (t x : Token) (xs : List Token) → x.time < t.time → placed t (x ∷ xs) ≡ x ∷ placed t xs
placed-behind t x xs before = ap (λ (b : Bool). cond b (x ∷ placed t xs) (t ∷ x ∷ xs)) (lt-ltb x.time t.time before)

-- the first of all comes first
pub by_time-first : (front : List Token) (t : Token) (rest : List Token) → Each (Behind t.time) front → Each (From t.time) rest → by_time (front ++ t ∷ rest) ≡ t ∷ by_time (front ++ rest)
by_time-first [] t rest behind from = placed-front t (by_time rest) (each-by_time (From t.time) rest from)
by_time-first (x ∷ front) t rest behind from =
    ap (placed x) (by_time-first front t rest behind.1 from) ∙ placed-behind x t (by_time (front ++ rest)) behind.0

-- as many
pub length-placed : (t : Token) (xs : List Token) → length (placed t xs) ≡ suc (length xs)
length-placed t [] = refl
length-placed t (x ∷ xs) = by_test (length-placed t xs) (nat_lt x.time t.time)
  where
    by_test : length (placed t xs) ≡ suc (length xs) → (b : Bool) → length (cond b (x ∷ placed t xs) (t ∷ x ∷ xs)) ≡ suc (suc (length xs))
    by_test rest true = ap suc rest
    by_test rest false = refl

pub length-by_time : (xs : List Token) → length (by_time xs) ≡ length xs
length-by_time [] = refl
length-by_time (x ∷ xs) = length-placed x (by_time xs) ∙ ap suc (length-by_time xs)

-- in order
pub rises-placed : (t : Token) (xs : List Token) → Rises xs → Rises (placed t xs)
rises-placed t [] rises = (tt, tt)
rises-placed t (x ∷ xs) rises = by_test (rises-placed t xs rises.1) (nat_lt x.time t.time) refl
  where
    by_test : Rises (placed t xs) → (b : Bool) → nat_lt x.time t.time ≡ b → Rises (cond b (x ∷ placed t xs) (t ∷ x ∷ xs))
    by_test rest true is =
        let before = ltb-true x.time t.time is in
        (each-placed (From x.time) t xs (omega (arith, before)) rises.0, rest)
    by_test rest false is =
        let from = ltb-false x.time t.time is in
        ((from, each-weaker (From x.time) (From t.time) (λ u h. omega (arith, from, h)) xs rises.0), rises)

pub rises-by_time : (xs : List Token) → Rises (by_time xs)
rises-by_time [] = tt
rises-by_time (x ∷ xs) = rises-placed x (by_time xs) (rises-by_time xs)

pub by_time-same : (xs : List Token) → Rises xs → by_time xs ≡ xs
by_time-same [] rises = refl
by_time-same (x ∷ xs) rises = ap (placed x) (by_time-same xs rises.1) ∙ placed-front x xs rises.0

pub rises-filter : (p : Token → Bool) (xs : List Token) → Rises xs → Rises (filter p xs)
rises-filter p [] rises = tt
rises-filter p (x ∷ xs) rises = by_test (rises-filter p xs rises.1) (p x)
  where
    by_test : Rises (filter p xs) → (b : Bool) → Rises (cond b (x ∷ filter p xs) (filter p xs))
    by_test rest true = (each-filter p (From x.time) xs rises.0, rest)
    by_test rest false = rest

-- those that pass a test, ordered
filter-placed : (p : Token → Bool) (t : Token) (xs : List Token) → Rises xs → filter p (placed t xs) ≡ cond (p t) (placed t (filter p xs)) (filter p xs)
filter-placed p t [] rises = refl
filter-placed p t (x ∷ xs) rises = by_order (filter-placed p t xs rises.1) (nat_lt x.time t.time) refl
  where
    by_parts : (b d : Bool) → x.time < t.time → cond b (x ∷ cond d (placed t (filter p xs)) (filter p xs)) (cond d (placed t (filter p xs)) (filter p xs))
        ≡ cond d (placed t (cond b (x ∷ filter p xs) (filter p xs))) (cond b (x ∷ filter p xs) (filter p xs))
    by_parts true true before = sym (placed-behind t x (filter p xs) before)
    by_parts true false before = refl
    by_parts false d before = refl

    by_order : filter p (placed t xs) ≡ cond (p t) (placed t (filter p xs)) (filter p xs) → (b : Bool) → nat_lt x.time t.time ≡ b → filter p (cond b (x ∷ placed t xs) (t ∷ x ∷ xs)) ≡ cond (p t) (placed t (filter p (x ∷ xs))) (filter p (x ∷ xs))
    by_order rest true is =
        ap (λ (ys : List Token). cond (p x) (x ∷ ys) ys) rest ∙ by_parts (p x) (p t) (ltb-true x.time t.time is)
    by_order rest false is =
        let from = ltb-false x.time t.time is in
        let all : Each (From t.time) (x ∷ xs) = (from, each-weaker (From x.time) (From t.time) (λ u h. omega (arith, from, h)) xs rises.0) in
        ap (λ (ys : List Token). cond (p t) ys (filter p (x ∷ xs))) (sym (placed-front t (filter p (x ∷ xs)) (each-filter p (From t.time) (x ∷ xs) all)))

pub filter-by_time : (p : Token → Bool) (xs : List Token) → filter p (by_time xs) ≡ by_time (filter p xs)
filter-by_time p [] = refl
filter-by_time p (x ∷ xs) =
    filter-placed p x (by_time xs) (rises-by_time xs) ∙ ap (λ (ys : List Token). cond (p x) (placed x ys) ys) (filter-by_time p xs) ∙ by_test (p x)
  where
    by_test : (b : Bool) → cond b (placed x (by_time (filter p xs))) (by_time (filter p xs)) ≡ by_time (cond b (x ∷ filter p xs) (filter p xs))
    by_test true = refl
    by_test false = refl

-- what rises is timed, and the other way round
first-from : (time : ℕ) (xs : List Token) → ((t : Token) → slice_get xs 0 ≡ Some t → time ≤ t.time) → Rises xs → Each (From time) xs
first-from time [] first rises = tt
first-from time (x ∷ xs) first rises =
    let here = first x refl in
    (here, each-weaker (From x.time) (From time) (λ u h. omega (arith, here, h)) xs rises.0)

pub rises-from_timed : (xs : List Token) → IsTimed xs → Rises xs
rises-from_timed [] timed = tt
rises-from_timed (x ∷ xs) timed =
    let rest = rises-from_timed xs (λ n s t e f. let more : suc n + 1 ≡ suc (n + 1) = omega arith in timed (suc n) s t e (ap (slice_get (x ∷ xs)) more ∙ f)) in
    (first-from x.time xs (λ t e. timed 0 x t refl e) rest, rest)

pub timed-from_rises : (xs : List Token) → Rises xs → IsTimed xs
timed-from_rises [] rises n s t e f = absurd (none-some s e)
timed-from_rises (x ∷ xs) rises zero s t e f = subst (λ (u : Token). u.time ≤ t.time) (same_Some x s e) (each-at (From x.time) xs 0 t rises.0 f)
timed-from_rises (x ∷ xs) rises (suc n) s t e f =
    let more : suc (n + 1) ≡ suc n + 1 = omega arith in
    timed-from_rises xs rises.1 n s t e (ap (slice_get (x ∷ xs)) more ∙ f)

-- one is left less
pub smaller : (old new : List Token) (t : Token) → by_time old ≡ t ∷ by_time new → length new < length old
smaller old new t is =
    let before = length-by_time old in
    let after = length-by_time new in
    let same = ap length is in
    omega (arith, before, after, same)
