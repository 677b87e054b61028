-- Names in the order of their first mention, name by name.
use Rattle.std.proofs.Common.{ℕ, zero, suc, Bor, ◌≡◌, ◌+◌, ◌<◌, ◌≤◌, ◌⊎◌, Bool, true, false, cond, not, ◌||◌, if◌then◌else◌, List, [], ◌∷◌, ◌++◌, length, map, take, get_or, slice_get, Option, Some, None, unwrap_or, IfSome, IsNone, ◌↔◌, Ok, refl, sym, ap, ◌∙◌, inl, inr, arith}
use Rattle.std.proofs.lemmas.List.{map_more, length_push}
use Rattle.std.proofs.lemmas.List.Folds.{list_any-append, list_any_at, Any-from_list_any}
use Rattle.std.proofs.lemmas.List.Quantifiers.{position-Some}
use Rattle.std.proofs.lemmas.Bool.{false≢true, lt-ltb, or_cases}
use Rattle.std.proofs.lemmas.Option.{same_Some, none-some, slice_get-get_or, slice_get_within, get_or_from_slice_get}
use Rattle.std.proofs.lemmas.Slice.Eq.{bytes_eq-Decides}
use Rattle.std.specs.List.{Contains, list_any, position, position_or_len}
use Rattle.std.specs.Str.{bytes_eq}
use Rattle.cy_msg.specs.Names.{AddAnswer}
use Rattle.cy_msg.specs.Once.{IsOnce}
use Rattle.cy_wiring.specs.Wiring.{named, named_behind, number_in, with_name}

-- Whether a name is among some is whether it is contained.
pub has_contains : (names : List (List ℕ)) (name : List ℕ) → list_any (λ n. bytes_eq n name) names ≡ true → Contains names name
has_contains names name has =
    let w = Any-from_list_any (λ n. bytes_eq n name) names has in
    let e : w.1 ≡ name = (bytes_eq-Decides w.1 name).0 w.4 in
    (w.0, w.2, rw e at w.3)

pub contains_has : (names : List (List ℕ)) (name : List ℕ) → Contains names name → list_any (λ n. bytes_eq n name) names ≡ true
contains_has names name c = list_any_at (λ n. bytes_eq n name) names c.0 name c.1 ((bytes_eq-Decides (get_or names c.0 name) name).1 c.2)

-- What adding a name to the names of channels gives.
add_by : (old new : List (List ℕ)) (name : List ℕ) (n : ℕ) (has : Bool) → list_any (λ m. bytes_eq m name) old ≡ has → AddAnswer old new name (Ok n)
    → new ≡ (if has then old else old ++ name ∷ [])
add_by old new name n true is answer = (answer.known (has_contains old name is)).1
add_by old new name n false is answer = (answer.fresh (λ c. false≢true (sym is ∙ contains_has old name c))).1

pub add_is : (old new : List (List ℕ)) (name : List ℕ) (n : ℕ) → AddAnswer old new name (Ok n) → new ≡ with_name old name
add_is old new name n answer = add_by old new name n (list_any (λ m. bytes_eq m name) old) refl answer

-- One mention more.
behind_push : (before xs : List (List ℕ)) (x : List ℕ) → named_behind before (xs ++ x ∷ []) ≡ with_name (named_behind before xs) x
behind_push before [] x = refl
behind_push before (y ∷ ys) x = behind_push (with_name before y) ys x

pub named_more : (ms : List (Bor (List ℕ))) (i : ℕ) (d : Bor (List ℕ)) → i < length ms
    → named (map (λ x. x.now) (take (i + 1) ms)) ≡ with_name (named (map (λ x. x.now) (take i ms))) (get_or ms i d).now
named_more ms i d below =
    ap named (map_more (λ (x : Bor (List ℕ)). x.now) ms i d below) ∙ behind_push [] (map (λ (x : Bor (List ℕ)). x.now) (take i ms)) (get_or ms i d).now

pub names_step : (ms : List (Bor (List ℕ))) (i : ℕ) (d : Bor (List ℕ)) (old new : List (List ℕ)) (n : ℕ) → i < length ms → old ≡ named (map (λ x. x.now) (take i ms))
    → AddAnswer old new (get_or ms i d).now (Ok n) → new ≡ named (map (λ x. x.now) (take (i + 1) ms))
names_step ms i d old new n below before answer =
    add_is old new (get_or ms i d).now n answer ∙ ap (λ (ns : List (List ℕ)). with_name ns (get_or ms i d).now) before ∙ sym (named_more ms i d below)

-- What is among the names with one more, and how many these are.
or_one : (a b : Bool) → (a || (b || false)) ≡ cond b true a
or_one true true = refl
or_one true false = refl
or_one false true = refl
or_one false false = refl

any_kept : (names : List (List ℕ)) (name q : List ℕ) (same : Bool) → bytes_eq name q ≡ same → list_any (λ n. bytes_eq n name) names ≡ true
    → list_any (λ n. bytes_eq n q) names ≡ cond same true (list_any (λ n. bytes_eq n q) names)
any_kept names name q true is has = ap (λ (x : List ℕ). list_any (λ n. bytes_eq n x) names) (sym ((bytes_eq-Decides name q).0 is)) ∙ has
any_kept names name q false is has = refl

any_with_by : (names : List (List ℕ)) (name q : List ℕ) (has : Bool) → list_any (λ n. bytes_eq n name) names ≡ has
    → list_any (λ n. bytes_eq n q) (if has then names else names ++ name ∷ []) ≡ cond (bytes_eq name q) true (list_any (λ n. bytes_eq n q) names)
any_with_by names name q true is = any_kept names name q (bytes_eq name q) refl is
any_with_by names name q false is = list_any-append (λ n. bytes_eq n q) names (name ∷ []) ∙ or_one (list_any (λ n. bytes_eq n q) names) (bytes_eq name q)

pub any_with : (names : List (List ℕ)) (name q : List ℕ) → list_any (λ n. bytes_eq n q) (with_name names name) ≡ cond (bytes_eq name q) true (list_any (λ n. bytes_eq n q) names)
any_with names name q = any_with_by names name q (list_any (λ n. bytes_eq n name) names) refl

long_by : (names : List (List ℕ)) (name : List ℕ) (new has : Bool) → new ≡ not has → (if new then length names + 1 else length names) ≡ length (if has then names else names ++ name ∷ [])
long_by names name new true is = rw is refl
long_by names name new false is = rw is (sym (length_push names name))

pub count_with : (names : List (List ℕ)) (name : List ℕ) (new : Bool) → new ≡ not (list_any (λ n. bytes_eq n name) names)
    → (if new then length names + 1 else length names) ≡ length (with_name names name)
count_with names name new is = long_by names name new (list_any (λ n. bytes_eq n name) names) is

pub kept_step : (ms : List (Bor (List ℕ))) (i : ℕ) (d : Bor (List ℕ)) (q : List ℕ) (old new : Bool) → i < length ms
    → old ≡ list_any (λ n. bytes_eq n q) (named (map (λ x. x.now) (take i ms))) → new ≡ cond (bytes_eq (get_or ms i d).now q) true old
    → new ≡ list_any (λ n. bytes_eq n q) (named (map (λ x. x.now) (take (i + 1) ms)))
kept_step ms i d q old new below before is =
    is ∙ ap (cond (bytes_eq (get_or ms i d).now q) true) before
    ∙ sym (ap (list_any (λ n. bytes_eq n q)) (named_more ms i d below) ∙ any_with (named (map (λ (x : Bor (List ℕ)). x.now) (take i ms))) (get_or ms i d).now q)

pub count_step : (ms : List (Bor (List ℕ))) (i : ℕ) (d : Bor (List ℕ)) (count next : ℕ) (new kept : Bool) → i < length ms → count ≡ length (named (map (λ x. x.now) (take i ms)))
    → kept ≡ list_any (λ n. bytes_eq n (get_or ms i d).now) (named (map (λ x. x.now) (take i ms))) → new ≡ not kept → next ≡ (if new then count + 1 else count)
    → next ≡ length (named (map (λ x. x.now) (take (i + 1) ms)))
count_step ms i d count next new kept below before among added is =
    is ∙ ap (λ (n : ℕ). if new then n + 1 else n) before ∙ count_with (named (map (λ (x : Bor (List ℕ)). x.now) (take i ms))) (get_or ms i d).now new (added ∙ ap not among)
    ∙ sym (ap (λ (ns : List (List ℕ)). length ns) (named_more ms i d below))

pub few_step : (new : Bool) (count next i : ℕ) → count ≤ i → next ≡ (if new then count + 1 else count) → next ≤ i + 1
few_step true count next i few is = omega arith
few_step false count next i few is = omega arith

-- A name that is mentioned is among the names.
behind_kept : (before names : List (List ℕ)) (q : List ℕ) → list_any (λ n. bytes_eq n q) before ≡ true → list_any (λ n. bytes_eq n q) (named_behind before names) ≡ true
behind_kept before [] q has = has
behind_kept before (x ∷ xs) q has = behind_kept (with_name before x) xs q (any_with before x q ∙ still (bytes_eq x q) (list_any (λ n. bytes_eq n q) before) has)
  where
    still : (a b : Bool) → b ≡ true → cond a true b ≡ true
    still true b is = refl
    still false b is = is

pub behind_has : (before names : List (List ℕ)) (q : List ℕ) → list_any (λ n. bytes_eq n q) names ≡ true → list_any (λ n. bytes_eq n q) (named_behind before names) ≡ true
behind_has before [] q has = absurd (false≢true has)
behind_has before (x ∷ xs) q has =
    elim (or_cases (bytes_eq x q) (list_any (λ n. bytes_eq n q) xs) has) [
      | inl here ↦ behind_kept (with_name before x) xs q (any_with before x q ∙ ap (λ b. cond b true (list_any (λ n. bytes_eq n q) before)) here)
      | inr later ↦ behind_has (with_name before x) xs q later
    ]

-- No name stands twice.
end_or_before : {A : Type 0} (xs : List A) (y : A) (n : ℕ) (z : A) → slice_get (xs ++ y ∷ []) n ≡ Some z → (slice_get xs n ≡ Some z) ⊎ ((n ≡ length xs) × (y ≡ z))
end_or_before [] y zero z at = inr (refl, same_Some y z at)
end_or_before [] y (suc n) z at = absurd (none-some z at)
end_or_before (x ∷ xs) y zero z at = inl at
end_or_before (x ∷ xs) y (suc n) z at = elim (end_or_before xs y n z at) [ inl before ↦ inl before | inr end ↦ inr (ap suc end.0, end.1) ]

lacks_end : (names : List (List ℕ)) (name : List ℕ) (m n : ℕ) (x : List ℕ) → list_any (λ k. bytes_eq k name) names ≡ false → slice_get names m ≡ Some x → name ≡ x → m ≡ n
lacks_end names name m n x lacks at same =
    let has = contains_has names name (m, slice_get_within names m x at, ap (get_or names m) same ∙ get_or_from_slice_get names m x x at ∙ sym same) in
    absurd (false≢true (sym lacks ∙ has))

once_by : (names : List (List ℕ)) (name : List ℕ) (has : Bool) → list_any (λ k. bytes_eq k name) names ≡ has → IsOnce names → IsOnce (if has then names else names ++ name ∷ [])
once_by names name true is once = once
once_by names name false is once = λ m n x p q.
    elim (end_or_before names name m x p) [
      | inl a ↦ elim (end_or_before names name n x q) [
        | inl b ↦ once m n x a b
        | inr b ↦ lacks_end names name m n x is a b.1
      ]
      | inr a ↦ elim (end_or_before names name n x q) [
        | inl b ↦ sym (lacks_end names name n m x is b a.1)
        | inr b ↦ a.0 ∙ sym b.0
      ]
    ]

once_behind : (before names : List (List ℕ)) → IsOnce before → IsOnce (named_behind before names)
once_behind before [] once = once
once_behind before (x ∷ xs) once = once_behind (with_name before x) xs (once_by before x (list_any (λ k. bytes_eq k x) before) refl once)

pub named_once : (names : List (List ℕ)) → IsOnce (named names)
named_once names = once_behind [] names (λ m n x p q. absurd (none-some x p))

pub once_same : (names kept : List (List ℕ)) → kept ≡ named names → IsOnce kept
once_same names kept is = rw is (named_once names)

-- Where something passes a test, the first place at which one does is found.
passes : {A : Type 0} (p : A → Bool) (xs : List A) (n : ℕ) (x : A) → slice_get xs n ≡ Some x → p x ≡ true → position_or_len p xs < length xs
passes p [] n x at pass = absurd (none-some x at)
passes {A} p (y ∷ ys) zero x at pass =
    let here : p y ≡ true = ap p (same_Some y x at) ∙ pass in
    rw here (omega arith)
passes p (y ∷ ys) (suc n) x at pass = by_first (p y) (position_or_len p ys) (length ys) (passes p ys n x at pass)
  where
    by_first : (b : Bool) (k l : ℕ) → k < l → cond (not b) (1 + k) 0 < suc l
    by_first true k l below = omega arith
    by_first false k l below = omega arith

pub position_found : {A : Type 0} (p : A → Bool) (xs : List A) (n : ℕ) (x : A) → slice_get xs n ≡ Some x → p x ≡ true → position p xs ≡ Some (position_or_len p xs)
position_found p xs n x at pass = rw (lt-ltb (position_or_len p xs) (length xs) (passes p xs n x at pass)) refl

pub none_passes : {A : Type 0} (p : A → Bool) (xs : List A) (n : ℕ) (x : A) → position p xs ≡ None → slice_get xs n ≡ Some x → p x ≡ true → ⊥
none_passes p xs n x none at pass = none-some (position_or_len p xs) (sym none ∙ position_found p xs n x at pass)

-- The number of a name that is among some.
pub number_has : (names : List (List ℕ)) (name : List ℕ) → list_any (λ n. bytes_eq n name) names ≡ true → slice_get names (number_in names name) ≡ Some name
number_has names name has =
    let c = has_contains names name has in
    let found = position_found (λ n. bytes_eq n name) names c.0 name (slice_get-get_or names c.0 name c.1 ∙ ap (λ (x : List ℕ). Some x) c.2) ((bytes_eq-Decides name name).1 refl) in
    let at = position-Some (λ n. bytes_eq n name) names (position_or_len (λ n. bytes_eq n name) names) name found in
    let number : number_in names name ≡ position_or_len (λ n. bytes_eq n name) names = ap (λ (o : Option ℕ). unwrap_or o 0) found in
    rw number (slice_get-get_or names (position_or_len (λ n. bytes_eq n name) names) name at.0 ∙ ap (λ (x : List ℕ). Some x) ((bytes_eq-Decides (get_or names (position_or_len (λ n. bytes_eq n name) names) name) name).0 at.1))

pub number_is : (names : List (List ℕ)) (name : List ℕ) (r : Option ℕ) → IsOnce names → IfSome r (λ n. slice_get names n ≡ Some name) → (IsNone r ↔ (Contains names name → ⊥))
    → unwrap_or r 0 ≡ number_in names name
number_is names name (Some n) once at none =
    let within = slice_get_within names n name at in
    let has = contains_has names name (n, within, get_or_from_slice_get names n name name at) in
    once n (number_in names name) name at (number_has names name has)
number_is names name None once at none = sym (unnamed (position (λ n. bytes_eq n name) names) refl)
  where
    unnamed : (o : Option ℕ) → position (λ n. bytes_eq n name) names ≡ o → unwrap_or o 0 ≡ 0
    unnamed None is = refl
    unnamed (Some k) is =
        let at = position-Some (λ n. bytes_eq n name) names k name is in
        absurd (none.0 refl (k, at.0, (bytes_eq-Decides (get_or names k name) name).0 at.1))
