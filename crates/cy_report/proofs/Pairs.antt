-- The lines of components beside their files, pair by pair.
use Rattle.std.proofs.Common.{ℕ, ◌≡◌, ◌+◌, ◌<◌, List, [], ◌∷◌, ◌++◌, length, take, get_or, sym, ap, ◌∙◌, refl, arith, append_assoc, append-nil}
use Rattle.std.proofs.lemmas.List.{take_more, length-take-le}
use Rattle.std.proofs.lemmas.Grind.{flat_map-append}
use Rattle.std.specs.List.{flat_map, zip}

zip_push : {A B : Type 0} (xs : List A) (ys : List B) (x : A) (y : B) → length xs ≡ length ys → zip (xs ++ x ∷ []) (ys ++ y ∷ []) ≡ zip xs ys ++ (x, y) ∷ []
zip_push [] [] x y same = refl
zip_push [] (b ∷ ys) x y same = absurd (omega arith)
zip_push (a ∷ xs) [] x y same = absurd (omega arith)
zip_push {A} {B} (a ∷ xs) (b ∷ ys) x y same = ap (λ (ps : List (A × B)). (a, b) ∷ ps) (zip_push xs ys x y (omega arith))

pub lines_more : {A B : Type 0} (f : A × B → List ℕ) (xs : List A) (ys : List B) (i : ℕ) (x : A) (y : B) (first before after : List ℕ) → i < length xs → length ys ≡ length xs → x ≡ get_or xs i x → y ≡ get_or ys i y
    → before ≡ first ++ flat_map f (zip (take i xs) (take i ys)) → after ≡ before ++ f (x, y) → after ≡ first ++ flat_map f (zip (take (i + 1) xs) (take (i + 1) ys))
lines_more {A} {B} f xs ys i x y first before after below same here there is pushed =
    let front : take (i + 1) xs ≡ take i xs ++ x ∷ [] = take_more xs i x below ∙ ap (λ (e : A). take i xs ++ e ∷ []) (sym here) in
    let back : take (i + 1) ys ≡ take i ys ++ y ∷ [] = take_more ys i y (omega arith) ∙ ap (λ (e : B). take i ys ++ e ∷ []) (sym there) in
    let ps = zip (take i xs) (take i ys) in
    let pairs : zip (take (i + 1) xs) (take (i + 1) ys) ≡ ps ++ (x, y) ∷ [] = ap (λ (e : List A). zip e (take (i + 1) ys)) front ∙ ap (λ (e : List B). zip (take i xs ++ x ∷ []) e) back
    ∙ zip_push (take i xs) (take i ys) x y (length-take-le i xs (omega arith) ∙ sym (length-take-le i ys (omega arith))) in
    let more : flat_map f (zip (take (i + 1) xs) (take (i + 1) ys)) ≡ flat_map f ps ++ f (x, y) = ap (flat_map f) pairs ∙ flat_map-append f ps ((x, y) ∷ []) ∙ ap (λ (e : List ℕ). flat_map f ps ++ e) (append-nil (f (x, y))) in
    rw (more, pushed, is) (append_assoc first (flat_map f ps) (f (x, y)))
