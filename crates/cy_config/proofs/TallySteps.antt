-- A name is counted once more.
use Rattle.std.proofs.Common.{ℕ, zero, suc, ◌≡◌, ◌+◌, ◌<◌, ◌≤◌, Bool, true, false, cond, not, Option, Some, None, if◌then◌else◌, List, [], ◌∷◌, ◌++◌, length, get_or, ltb, add-zero, zero-add, set, refl, sym, ◌∙◌, arith}
use Rattle.std.specs.List.{position, position_or_len}
use Rattle.std.specs.Str.{bytes_eq}
use Rattle.std.proofs.lemmas.Slice.Eq.{bytes_eq-Decides}
use Rattle.std.proofs.lemmas.Option.{none-some}
use Rattle.std.proofs.lemmas.Bool.{false≢true, ltb-false}
use Rattle.cy_config.specs.declared.tally.Met.{Met}
use Rattle.cy_config.specs.private.Tallies.{times_of}

abbrev pub is_name : List ℕ → Met → Bool
is_name name m = bytes_eq m.name.now name

pub by_cases : {P : Type 0} (b : Bool) → (b ≡ true → P) → (b ≡ false → P) → P
by_cases true at_true at_false = at_true refl
by_cases false at_true at_false = at_false refl

pub times_at : (met : List Met) (name : List ℕ) (i : ℕ) (d : Met) → i < length met → is_name name (get_or met i d) ≡ true
    → ((k : ℕ) → k < i → is_name name (get_or met k d) ≡ false) → times_of met name ≡ (get_or met i d).times
times_at (m ∷ met) name zero d there here before = rw here
times_at (m ∷ met) name (suc i) d there here before =
    rw (before 0 (omega arith)) (times_at met name i d (omega arith) here (λ k below. before (suc k) (omega arith)))
times_at [] name i d there here before = absurd (omega arith)

-- Where the name isn't met yet, it came no time, and is put at the end.
none_step : (here : Bool) (times rest place n : ℕ) → n + 1 ≤ cond (not here) (1 + place) 0 → (n ≤ place → rest ≡ 0) → (if here then times else rest) ≡ 0
none_step true times rest place n h later = absurd (omega arith)
none_step false times rest place n h later = later (omega arith)

later_step : (here : Bool) (place n : ℕ) → n + 1 ≤ cond (not here) (1 + place) 0 → (here ≡ false) × (n ≤ place)
later_step true place n h = absurd (omega arith)
later_step false place n h = (refl, omega arith)

pub times_none : (met : List Met) (name : List ℕ) → length met ≤ position_or_len (is_name name) met → times_of met name ≡ 0
times_none [] name h = refl
times_none (m ∷ met) name h =
    none_step (is_name name m) m.times (times_of met name) (position_or_len (is_name name) met) (length met) (omega arith) (times_none met name)

-- Two names that aren't equal are not equal to a third.
third_differs : (a name other : List ℕ) → bytes_eq a name ≡ false → bytes_eq a other ≡ true → bytes_eq name other ≡ false
third_differs a name other f t =
    let is : a ≡ other = (bytes_eq-Decides a other).0 t in
    by_cases (bytes_eq name other)
    (λ same. let also : a ≡ name = is ∙ sym ((bytes_eq-Decides name other).0 same) in absurd (false≢true (sym f ∙ (bytes_eq-Decides a name).1 also)))
    (λ differs. differs)

pub counts_new : (met : List Met) (name other : List ℕ) (m : Met) → length met ≤ position_or_len (is_name name) met → m.name.now ≡ name → m.times ≡ 1
    → times_of (met ++ m ∷ []) other ≡ times_of met other + (if bytes_eq name other then 1 else 0)
counts_new [] name other m absent is one = rw (is, one) (sym (zero-add _))
counts_new (x ∷ met) name other m absent is one =
    let here : (is_name name x ≡ false) × (length met ≤ position_or_len (is_name name) met) =
    later_step (is_name name x) (position_or_len (is_name name) met) (length met) (omega arith) in
    by_cases (bytes_eq x.name.now other)
    (λ t. rw (t, third_differs x.name.now name other here.0 t) (sym (add-zero x.times)))
    (λ f. rw f (counts_new met name other m here.1 is one))

-- Where it is met, it is counted there.
pub counts_met : (met : List Met) (name other : List ℕ) (i : ℕ) (d m : Met) → i < length met → is_name name (get_or met i d) ≡ true
    → ((k : ℕ) → k < i → is_name name (get_or met k d) ≡ false) → m.name.now ≡ (get_or met i d).name.now → m.times ≡ (get_or met i d).times + 1
    → times_of (set met i m) other ≡ times_of met other + (if bytes_eq name other then 1 else 0)
counts_met [] name other i d m there here before is more = absurd (omega arith)
counts_met (x ∷ met) name other zero d m there here before is more =
    let same : x.name.now ≡ name = (bytes_eq-Decides x.name.now name).0 here in
    by_cases (bytes_eq name other)
    (λ t. rw (is, same, t, more) refl)
    (λ f. rw (is, same, f) (sym (add-zero (times_of met other))))
counts_met (x ∷ met) name other (suc i) d m there here before is more =
    by_cases (bytes_eq x.name.now other)
    (λ t. rw (t, third_differs x.name.now name other (before 0 (omega arith)) t) (sym (add-zero x.times)))
    (λ f. rw f (counts_met met name other i d m (omega arith) here (λ k below. before (suc k) (omega arith)) is more))

-- Where the place of a name says that it isn't met.
none_at : (place n : ℕ) (i : Option ℕ) → i ≡ None → i ≡ cond (ltb place n) (Some place) None → n ≤ place
none_at place n i none is = by_cases (ltb place n) (λ t. absurd (let e : None ≡ Some place = sym none ∙ rw t at is in none-some place e)) (λ f. omega (arith, ltb-false place n f))

pub not_met : (met : List Met) (name : List ℕ) (i : Option ℕ) → i ≡ None → i ≡ position (is_name name) met → length met ≤ position_or_len (is_name name) met
not_met met name i none is = none_at (position_or_len (is_name name) met) (length met) i none is
