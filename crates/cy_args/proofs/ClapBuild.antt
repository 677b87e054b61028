-- Arguments are added to a command, and commands to a program, one by one.
use Rattle.std.proofs.Common.{◌≡◌, ◌∙◌, ◌+◌, ◌<◌, ◌||◌, ℕ, Bool, true, false, List, [], ◌∷◌, zero, suc, refl, sym, ap, arith, length, map, drop, fold, get_or}

pub or_false : (b : Bool) → (b || false) ≡ b
or_false true = refl
or_false false = refl

drop_next : {X : Type 0} (names : List X) (i : ℕ) (d : X) → i < length names → drop i names ≡ get_or names i d ∷ drop (suc i) names
drop_next [] i d lt = absurd (omega arith)
drop_next (name ∷ names) zero d lt = refl
drop_next (name ∷ names) (suc i) d lt = drop_next names i d (omega arith)

-- one more of these, by the next one
pub more : {A X Y : Type 0} (step : A → Y → A) (v : X → Y) (xs : List X) (i : ℕ) (d : X) (old new : A) → i < length xs → new ≡ step old (v (get_or xs i d))
    → fold step new (map v (drop (i + 1) xs)) ≡ fold step old (map v (drop i xs))
more {A} {X} {Y} step v xs i d old new lt is =
    let next : i + 1 ≡ suc i = omega arith in
    ap (λ (a : A). fold step a (map v (drop (i + 1) xs))) is
    ∙ (ap (λ (k : ℕ). fold step (step old (v (get_or xs i d))) (map v (drop k xs))) next
    ∙ ap (λ (l : List X). fold step old (map v l)) (sym (drop_next xs i d lt)))
