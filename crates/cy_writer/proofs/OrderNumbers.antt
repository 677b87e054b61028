-- The numbers of a list, each once, in the order in which they first stand there.
use Rattle.std.proofs.Common.{◌≡◌, ◌<◌, ℕ, zero, suc, ◌+◌, List, [], ◌∷◌, ◌++◌, take, refl, ap, sym, ◌∙◌, subst, Some, Bool, true, false, ◌||◌, slice_get, ⊎_elim}
use Rattle.std.specs.Prelude.{◌==◌}
use Rattle.std.specs.List.{Contains, list_any}
use Rattle.std.proofs.lemmas.List.{take_more}
use Rattle.std.proofs.lemmas.List.Folds.{list_any-append, list_any_at}
use Rattle.std.proofs.lemmas.Option.{slice_get_within, get_or_from_slice_get, same_Some, none-some}
use Rattle.cy_msg.specs.Once.{IsOnce}
use Rattle.cy_msg.proofs.OnceSteps.{IsOnce-push, slice_get-push_cases}
use Rattle.cy_writer.specs.Order.{Order, HasAll, with_number, numbers_after}
use Rattle.cy_writer.proofs.FirstPlaces.{eqb_same}

numbers_after-append : (known xs ys : List ℕ) → numbers_after known (xs ++ ys) ≡ numbers_after (numbers_after known xs) ys
numbers_after-append known [] ys = refl
numbers_after-append known (x ∷ rest) ys = numbers_after-append (with_number known x) rest ys

-- with one more number
pub numbers_one : (known xs : List ℕ) (x : ℕ) → numbers_after known (xs ++ x ∷ []) ≡ with_number (numbers_after known xs) x
numbers_one known xs x = numbers_after-append known xs (x ∷ [])

pub numbers_more : (known xs : List ℕ) (n x : ℕ) → slice_get xs n ≡ Some x
    → numbers_after known (take (n + 1) xs) ≡ with_number (numbers_after known (take n xs)) x
numbers_more known xs n x here =
    ap (numbers_after known)
    (take_more xs n x (slice_get_within xs n x here) ∙ ap (λ (y : ℕ). take n xs ++ y ∷ []) (get_or_from_slice_get xs n x x here))
    ∙ numbers_one known (take n xs) x

-- a number that stands there adds nothing
stands : (known : List ℕ) (x : ℕ) → list_any (λ other. x == other) known ≡ true → with_number known x ≡ known
stands known x any = rw any refl

-- so where each channel stands there, no number of one adds anything
none_added : (o : Order) (xs : List ℕ) → HasAll o → ((n x : ℕ) → slice_get xs n ≡ Some x → x < o.all) → numbers_after o.numbers xs ≡ o.numbers
none_added o [] full below = refl
none_added o (x ∷ rest) full below =
    ap (λ (known : List ℕ). numbers_after known rest) (stands o.numbers x (full x (below 0 x refl))) ∙ none_added o rest full (λ n y here. below (suc n) y here)

pub numbers_filled : (o : Order) (known xs : List ℕ) (n : ℕ) → o.numbers ≡ numbers_after known (take n xs) → HasAll o
    → ((m x : ℕ) → slice_get xs m ≡ Some x → x < o.all) → o.numbers ≡ numbers_after known xs
numbers_filled o known [] zero is full below = is
numbers_filled o known [] (suc n) is full below = is
numbers_filled o known (x ∷ rest) zero is full below =
    sym (ap (λ (others : List ℕ). numbers_after others (x ∷ rest)) (sym is) ∙ none_added o (x ∷ rest) full below)
numbers_filled o known (x ∷ rest) (suc n) is full below =
    numbers_filled o (with_number known x) rest n is full (λ m y here. below (suc m) y here)

-- a number that stands among the known ones
with_number-keeps : (p : ℕ → Bool) (known : List ℕ) (c : ℕ) → list_any p known ≡ true → list_any p (with_number known c) ≡ true
with_number-keeps p known c h = by (list_any (λ other. c == other) known) refl
  where
    by : (b : Bool) → list_any (λ other. c == other) known ≡ b → list_any p (with_number known c) ≡ true
    by true e = rw e h
    by false e = rw e (list_any-append p known (c ∷ []) ∙ (rw h refl))

with_number-has : (known : List ℕ) (c : ℕ) → list_any (λ other. c == other) (with_number known c) ≡ true
with_number-has known c = by (list_any (λ other. c == other) known) refl
  where
    or_true : (b : Bool) → (b || true) ≡ true
    or_true true = refl
    or_true false = refl

    by : (b : Bool) → list_any (λ other. c == other) known ≡ b → list_any (λ other. c == other) (with_number known c) ≡ true
    by true e = rw e e
    by false e = rw e (list_any-append (λ other. c == other) known (c ∷ []) ∙ (rw (eqb_same c) (or_true _)))

numbers_after-keeps : (p : ℕ → Bool) (known xs : List ℕ) → list_any p known ≡ true → list_any p (numbers_after known xs) ≡ true
numbers_after-keeps p known [] h = h
numbers_after-keeps p known (x ∷ rest) h = numbers_after-keeps p (with_number known x) rest (with_number-keeps p known x h)

-- each number of the list stands there
pub numbers_after-has : (known xs : List ℕ) (n x : ℕ) → slice_get xs n ≡ Some x → list_any (λ other. x == other) (numbers_after known xs) ≡ true
numbers_after-has known [] n x here = absurd (none-some x here)
numbers_after-has known (y ∷ rest) zero x here =
    subst (λ (c : ℕ). list_any (λ other. c == other) (numbers_after (with_number known y) rest) ≡ true) (same_Some y x here)
    (numbers_after-keeps (λ other. y == other) (with_number known y) rest (with_number-has known y))
numbers_after-has known (y ∷ rest) (suc n) x here = numbers_after-has (with_number known y) rest n x here

-- What holds of the known numbers and of one more.
pub all_with : (P : ℕ → Type 0) (known : List ℕ) (x : ℕ) → ((n c : ℕ) → slice_get known n ≡ Some c → P c) → P x
    → (n c : ℕ) → slice_get (with_number known x) n ≡ Some c → P c
all_with P known x all last n c here = by (list_any (λ other. x == other) known) refl
  where
    by : (b : Bool) → list_any (λ other. x == other) known ≡ b → P c
    by true e = all n c (rw e at here)
    by false e = ⊎_elim (λ kept. all n c kept) (λ end. subst P end.1 last) (slice_get-push_cases known x n c (rw e at here))

-- and so of all
pub numbers_after-all : (P : ℕ → Type 0) (known xs : List ℕ) → ((n c : ℕ) → slice_get known n ≡ Some c → P c)
    → ((n x : ℕ) → slice_get xs n ≡ Some x → P x) → (n c : ℕ) → slice_get (numbers_after known xs) n ≡ Some c → P c
numbers_after-all P known [] all each n c here = all n c here
numbers_after-all P known (x ∷ rest) all each n c here =
    numbers_after-all P (with_number known x) rest (all_with P known x all (each 0 x refl)) (λ m y there. each (suc m) y there) n c here

-- no number stands twice
once_with : (known : List ℕ) (x : ℕ) → IsOnce known → IsOnce (with_number known x)
once_with known x once = by (list_any (λ other. x == other) known) refl
  where
    among : Contains known x → list_any (λ other. x == other) known ≡ true
    among c = list_any_at (λ other. x == other) known c.0 x c.1 (ap (λ (y : ℕ). x == y) c.2 ∙ eqb_same x)

    by : (b : Bool) → list_any (λ other. x == other) known ≡ b → IsOnce (with_number known x)
    by true e = rw e once
    by false e = rw e (IsOnce-push known x once (λ c. let bad : true ≡ false = sym (among c) ∙ e in absurd cc))

once_after : (known xs : List ℕ) → IsOnce known → IsOnce (numbers_after known xs)
once_after known [] once = once
once_after known (x ∷ rest) once = once_after (with_number known x) rest (once_with known x once)

pub numbers_once : (xs : List ℕ) → IsOnce (numbers_after [] xs)
numbers_once xs = once_after [] xs (λ m n x first second. absurd (none-some x first))
