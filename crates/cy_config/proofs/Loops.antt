-- One item more of a list that is made item by item.
use Rattle.std.proofs.Common.{ℕ, Bor, ◌≡◌, ◌+◌, ◌<◌, List, [], ◌∷◌, ◌++◌, length, map, take, get_or, refl, sym, ap, ◌∙◌, append_assoc, append-nil}
use Rattle.std.proofs.lemmas.Grind.{flat_map-append}
use Rattle.std.proofs.lemmas.List.{map-append, take_more}
use Rattle.std.specs.List.{flat_map}

pub mapped_more : {A B : Type 0} (f : A → B) (xs : List (Bor A)) (k : ℕ) (x : Bor A) (ys zs : List B) (y : B) → k < length xs → x ≡ get_or xs k x
    → ys ≡ map f (map (λ m. m.now) (take k xs)) → y ≡ f x.now → zs ≡ ys ++ y ∷ [] → zs ≡ map f (map (λ m. m.now) (take (k + 1) xs))
mapped_more {A} {B} f xs k x ys zs y there here before is pushed =
    let front : take (k + 1) xs ≡ take k xs ++ x ∷ [] = take_more xs k x there ∙ ap (λ (e : Bor A). take k xs ++ e ∷ []) (sym here) in
    rw (pushed, before, is, front, map-append (λ (m : Bor A). m.now) (take k xs) (x ∷ []), map-append f (map (λ m. m.now) (take k xs)) (x.now ∷ [])) refl

-- What one item more gives, behind what those before it gave.
pub gathered_more : {A B : Type 0} (f : A → List B) (xs : List (Bor A)) (k : ℕ) (x : Bor A) (ys more zs : List (Bor B)) → k < length xs → x ≡ get_or xs k x
    → map (λ m. m.now) ys ≡ flat_map f (map (λ m. m.now) (take k xs)) → map (λ m. m.now) more ≡ f x.now → zs ≡ ys ++ more → map (λ m. m.now) zs ≡ flat_map f (map (λ m. m.now) (take (k + 1) xs))
gathered_more {A} {B} f xs k x ys more zs there here before is joined =
    let front : take (k + 1) xs ≡ take k xs ++ x ∷ [] = take_more xs k x there ∙ ap (λ (e : Bor A). take k xs ++ e ∷ []) (sym here) in
    let old = map (λ (m : Bor A). m.now) (take k xs) in
    let shown : map (λ (m : Bor A). m.now) (take (k + 1) xs) ≡ old ++ x.now ∷ [] = ap (map (λ (m : Bor A). m.now)) front ∙ map-append (λ (m : Bor A). m.now) (take k xs) (x ∷ []) in
    let gives : flat_map f (map (λ (m : Bor A). m.now) (take (k + 1) xs)) ≡ flat_map f old ++ f x.now =
    ap (flat_map f) shown ∙ flat_map-append f old (x.now ∷ []) ∙ ap (λ (bs : List B). flat_map f old ++ bs) (append-nil (f x.now)) in
    ap (map (λ (m : Bor B). m.now)) joined ∙ map-append (λ (m : Bor B). m.now) ys more ∙ ap (λ (bs : List B). bs ++ map (λ (m : Bor B). m.now) more) before
    ∙ ap (λ (bs : List B). flat_map f old ++ bs) is ∙ sym gives

-- The same of a list of items.
pub pushed_more : {A B : Type 0} (f : A → B) (xs : List A) (k : ℕ) (x : A) (ys zs : List B) (y : B) → k < length xs → x ≡ get_or xs k x
    → ys ≡ map f (take k xs) → y ≡ f x → zs ≡ ys ++ y ∷ [] → zs ≡ map f (take (k + 1) xs)
pushed_more {A} {B} f xs k x ys zs y there here before is pushed =
    let front : take (k + 1) xs ≡ take k xs ++ x ∷ [] = take_more xs k x there ∙ ap (λ (e : A). take k xs ++ e ∷ []) (sym here) in
    rw (pushed, before, is, front, map-append f (take k xs) (x ∷ [])) refl

-- The same where an item that is missing would be another one.
pub copied_more : {A B : Type 0} (f : A → B) (xs : List A) (k : ℕ) (d : A) (ys zs : List B) → k < length xs → ys ≡ map f (take k xs) → zs ≡ ys ++ f (get_or xs k d) ∷ [] → zs ≡ map f (take (k + 1) xs)
copied_more f xs k d ys zs there before pushed = rw (pushed, before, take_more xs k d there, map-append f (take k xs) (get_or xs k d ∷ [])) refl

-- The same of a list of references, behind what stood there.
pub shown_more : {A B : Type 0} (f : A → B) (xs : List A) (k : ℕ) (x : A) (base : List B) (ys zs : List (Bor B)) (y : Bor B) → k < length xs → x ≡ get_or xs k x
    → map (λ m. m.now) ys ≡ base ++ map f (take k xs) → y.now ≡ f x → zs ≡ ys ++ y ∷ [] → map (λ m. m.now) zs ≡ base ++ map f (take (k + 1) xs)
shown_more {A} {B} f xs k x base ys zs y there here before is pushed =
    let front : take (k + 1) xs ≡ take k xs ++ x ∷ [] = take_more xs k x there ∙ ap (λ (e : A). take k xs ++ e ∷ []) (sym here) in
    ap (map (λ (m : Bor B). m.now)) pushed ∙ map-append (λ (m : Bor B). m.now) ys (y ∷ []) ∙ ap (λ (bs : List B). bs ++ y.now ∷ []) before
    ∙ ap (λ (b : B). (base ++ map f (take k xs)) ++ b ∷ []) is ∙ append_assoc base (map f (take k xs)) (f x ∷ [])
    ∙ ap (λ (bs : List B). base ++ bs) (sym (ap (map f) front ∙ map-append f (take k xs) (x ∷ [])))

pub shown_one : {B : Type 0} (xs : List B) (k : ℕ) (x : B) (base : List B) (ys zs : List (Bor B)) (y : Bor B) → k < length xs → x ≡ get_or xs k x
    → map (λ m. m.now) ys ≡ base ++ take k xs → y.now ≡ x → zs ≡ ys ++ y ∷ [] → map (λ m. m.now) zs ≡ base ++ take (k + 1) xs
shown_one {B} xs k x base ys zs y there here before is pushed =
    let front : take (k + 1) xs ≡ take k xs ++ x ∷ [] = take_more xs k x there ∙ ap (λ (e : B). take k xs ++ e ∷ []) (sym here) in
    ap (map (λ (m : Bor B). m.now)) pushed ∙ map-append (λ (m : Bor B). m.now) ys (y ∷ []) ∙ ap (λ (bs : List B). bs ++ y.now ∷ []) before
    ∙ ap (λ (b : B). (base ++ take k xs) ++ b ∷ []) is ∙ append_assoc base (take k xs) (x ∷ []) ∙ ap (λ (bs : List B). base ++ bs) (sym front)
