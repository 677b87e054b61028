-- The first name that stands a second time, name by name.
use Rattle.std.proofs.Common.{ℕ, ◌≡◌, ◌+◌, ◌<◌, Bool, true, false, cond, not, ◌||◌, if◌then◌else◌, List, [], ◌∷◌, ◌++◌, length, map, take, drop, get_or, Some, refl, sym, ap, ◌∙◌}
use Rattle.std.proofs.lemmas.List.{map-append, take_more, drop_more}
use Rattle.std.specs.List.{list_any}
use Rattle.std.proofs.lemmas.Bool.{false≢true}
use Rattle.std.specs.Str.{bytes_eq}
use Rattle.cy_config.specs.Refusals.{repeated_behind}
use Rattle.cy_sched.specs.declared.sched.Group.{Group}

or_step : (a b c d : Bool) → c ≡ cond b true d → (a || c) ≡ cond b true (a || d)
or_step true true c d is = refl
or_step true false c d is = refl
or_step false b c d is = is

or_one : (b : Bool) → (b || false) ≡ cond b true false
or_one true = refl
or_one false = refl

any_push : {A : Type 0} (p : A → Bool) (xs : List A) (x : A) → list_any p (xs ++ x ∷ []) ≡ cond (p x) true (list_any p xs)
any_push p [] x = or_one (p x)
any_push p (y ∷ xs) x = or_step (p y) (p x) (list_any p (xs ++ x ∷ [])) (list_any p xs) (any_push p xs x)

abbrev name_of : Group → List ℕ
name_of g = g.name

names_more : (groups : List Group) (k : ℕ) (g : Group) → k < length groups → g ≡ get_or groups k g
    → map name_of (take (k + 1) groups) ≡ map name_of (take k groups) ++ g.name ∷ []
names_more groups k g there here =
    ap (map name_of) (take_more groups k g there ∙ ap (λ (x : Group). take k groups ++ x ∷ []) (sym here)) ∙ map-append name_of (take k groups) (g ∷ [])

-- What is kept, with one name more.
pub kept_more : (groups : List Group) (k : ℕ) (g : Group) (q : List ℕ) (old new : Bool) → k < length groups → g ≡ get_or groups k g
    → old ≡ list_any (λ n. bytes_eq n q) (map name_of (take k groups)) → new ≡ cond (bytes_eq g.name q) true old
    → new ≡ list_any (λ n. bytes_eq n q) (map name_of (take (k + 1) groups))
kept_more groups k g q old new there here before is =
    is ∙ ap (cond (bytes_eq g.name q) true) before ∙ sym (ap (list_any (λ n. bytes_eq n q)) (names_more groups k g there here) ∙ any_push (λ n. bytes_eq n q) (map name_of (take k groups)) g.name)

pub behind_step : (groups : List Group) (k : ℕ) (g : Group) → k < length groups → g ≡ get_or groups k g
    → repeated_behind (map name_of (take k groups)) (map name_of (drop k groups))
    ≡ (if list_any (λ n. bytes_eq n g.name) (map name_of (take k groups)) then Some g.name else repeated_behind (map name_of (take (k + 1) groups)) (map name_of (drop (k + 1) groups)))
behind_step groups k g there here =
    let rest : drop k groups ≡ g ∷ drop (k + 1) groups = drop_more groups k g there ∙ ap (λ (x : Group). x ∷ drop (k + 1) groups) (sym here) in
    rw (rest, names_more groups k g there here) refl

-- What a set answers where a name is put into it.
pub was_kept : (new kept : Bool) → new ≡ not kept → new ≡ false → kept ≡ true
was_kept new true is h = refl
was_kept new false is h = absurd (false≢true (sym h ∙ is))

pub was_new : (new kept : Bool) → new ≡ not kept → new ≡ true → kept ≡ false
was_new new true is h = absurd (false≢true (sym is ∙ h))
was_new new false is h = refl

pub found_where : {A : Type 0} (b : Bool) (x y : A) → b ≡ true → (if b then x else y) ≡ x
found_where b x y is = rw is refl

pub later_where : {A : Type 0} (b : Bool) (x y : A) → b ≡ false → (if b then x else y) ≡ y
later_where b x y is = rw is refl
