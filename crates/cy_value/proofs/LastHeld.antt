-- What the last of fields holds, when one more is read.
use Rattle.std.proofs.Common.{◌≡◌, List, [], ◌∷◌, ◌++◌, refl, Option, Some, None, append-nil}
use Rattle.std.specs.List.{filter_map, last_or}
use Rattle.std.specs.Option.{option_map, option_or}
use Rattle.std.proofs.lemmas.List.Elements.{filter_map-append}

-- one more item is the last
last_or-append : {A : Type 0} (o : Option A) (xs : List A) (x : A)
    → last_or o (xs ++ x ∷ []) ≡ Some x
last_or-append o [] x = refl
last_or-append o (y ∷ xs) x = last_or-append (Some y) xs x

pub last-more : {A B : Type 0} (held : A → Option B) (xs : List A) (x : A) (o : Option B)
    → held x ≡ o → last_or None (filter_map held (xs ++ x ∷ []))
    ≡ option_or o (last_or None (filter_map held xs))
last-more held xs x None e = rw (filter_map-append, e, append-nil) refl
last-more held xs x (Some y) e =
    rw (filter_map-append, e) (last_or-append None (filter_map held xs) y)

-- what is seen of the last is the last of what is seen
pub option_map-or : {A B : Type 0} (f : A → B) (x y : Option A)
    → option_map f (option_or x y) ≡ option_or (option_map f x) (option_map f y)
option_map-or f None y = refl
option_map-or f (Some a) y = refl
