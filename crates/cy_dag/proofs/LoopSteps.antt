-- Tests of one item after the other, of which the first that refuses one decides.
use Rattle.std.proofs.Common.{ℕ, ◌≡◌, ◌+◌, ◌<◌, Option, Some, None, option_map, option_and_then, List, ◌∷◌, length, map, get_or, slice_get, refl, sym, ap, ◌∙◌, arith, add-one}
use Rattle.std.proofs.lemmas.List.{length-map}
use Rattle.std.proofs.lemmas.Option.{slice_get-get_or, slice_get-map}
use Rattle.std.specs.Option.{option_or}
use Rattle.cy_config.specs.Refusals.{first_of}
use Rattle.cy_dag.specs.Refusals.{IsDue}
use Rattle.cy_dag.specs.DagFile.{first_found}
use Rattle.cy_dag.specs.declared.error.DagError.{DagError}
use Rattle.cy_dag.specs.declared.error.DagError.TheVariants.{Memory}
use Rattle.cy_dag.proofs.Found.{found_at}

-- The first of some tests refuses, or passes.
pub head_due : (a : Option DagError) (rest : List (Option DagError)) (e : DagError) → IsDue a e → IsDue (first_of (a ∷ rest)) e
head_due a rest Memory due = tt
head_due a rest e due = rw due refl

pub tail_due : (a : Option DagError) (rest : List (Option DagError)) (e : DagError) → a ≡ None → IsDue (first_of rest) e → IsDue (first_of (a ∷ rest)) e
tail_due a rest Memory none due = tt
tail_due a rest e none due = rw (none, due) refl

pub tail_none : (a : Option DagError) (rest : List (Option DagError)) → a ≡ None → first_of rest ≡ None → first_of (a ∷ rest) ≡ None
tail_none a rest none also = rw (none, also) refl

-- The first number that is refused decides.
pub due_at : (given : ℕ → Option DagError) (i n : ℕ) (e : DagError) → i < n → first_found given i ≡ None → IsDue (given i) e → IsDue (first_found given n) e
due_at given i n Memory below none due = tt
due_at given i n e below none due = found_at given i n e below none due

-- Items stand for something, and a test of each may know its place.
module _ {A B : Type 0} (f : A → B) (test : ℕ → B → Option DagError) (xs : List A) where
  abbrev pub refused : ℕ → Option DagError
  refused place = option_and_then (test place) (slice_get (map f xs) place)

  module _ (k : ℕ) (x : A) (there : k < length xs) (here : x ≡ get_or xs k x) where
    item : slice_get (map f xs) k ≡ Some (f x)
    item = slice_get-map f xs k ∙ ap (option_map f) (slice_get-get_or xs k x there) ∙ ap (λ (y : A). Some (f y)) (sym here)

    is_test : refused k ≡ test k (f x)
    is_test = ap (option_and_then (test k)) item

    -- One item more is accepted, or it is refused.
    pub accepted_more : first_found refused k ≡ None → test k (f x) ≡ None → first_found refused (k + 1) ≡ None
    accepted_more before accepted =
        let now : refused k ≡ None = is_test ∙ accepted in
        ap (first_found refused) (add-one k) ∙ ap (λ (o : Option DagError). option_or o (refused k)) before ∙ now

    pub refused_here : (e : DagError) → first_found refused k ≡ None → IsDue (test k (f x)) e → IsDue (first_found refused (length (map f xs))) e
    refused_here e before due =
        let below : k < length (map f xs) = omega (arith, length-map xs f) in
        due_at refused k (length (map f xs)) e below before (rw is_test due)
