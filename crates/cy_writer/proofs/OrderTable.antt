-- The table of an order of channels.
use Rattle.std.proofs.Common.{◌≡◌, ◌≤◌, ◌<◌, ℕ, ◌^◌, List, [], ◌∷◌, ◌++◌, length, set, get_or, replicate, refl, ap, sym, ◌∙◌, arith, Some, None, Option, Bool, true, false, ◌||◌, length-append, length-set, eqb, slice_get, ◌⊎◌, inl, inr}
use Rattle.std.specs.Prelude.{◌==◌, not, is_some}
use Rattle.std.specs.List.{list_any, position, IsDistinct}
use Rattle.std.proofs.lemmas.Cmp.{nat_eq_equiv}
use Rattle.std.proofs.lemmas.Bool.Decides.{eqb_tells}
use Rattle.std.proofs.lemmas.List.{get_or-set_same, get_or-set_other, get_or-replicate, length-replicate}
use Rattle.std.proofs.lemmas.List.Folds.{list_any-append}
use Rattle.std.proofs.lemmas.Map.Keys.{IsDistinct-push}
use Rattle.std.proofs.lemmas.Map.Steps.{length-le_from_distinct_below}
use Rattle.std.proofs.lemmas.Option.{slice_get-get_or, slice_get_within, get_or_from_slice_get, same_Some}
use Rattle.cy_writer.specs.Order.{with_number}
use Rattle.cy_writer.specs.private.Places.{ArePlaces}
use Rattle.cy_writer.proofs.FirstPlaces.{position-skipped, position-added, absent, present}

pub shorter : (order : List ℕ) (table : List (Option ℕ)) → ArePlaces order table → length order ≤ length table
shorter order table h = length-le_from_distinct_below order (length table) h.once h.below

pub none_noted : (n : ℕ) → n < 2 ^ 32 → ArePlaces [] (replicate n None)
unfolding IsDistinct
none_noted n few =
    let none : Option ℕ = None in
    record {
      places = λ c low. let inside : c < n = omega (arith, low, length-replicate n none) in
          slice_get-get_or (replicate n none) c none low ∙ ap (λ (o : Option ℕ). Some o) (get_or-replicate n c none none inside);
      once = tt;
      below = λ c h. absurd cc;
      few = omega (arith, few, length-replicate n none);
    }

-- what is read of it
pub read : (table : List (Option ℕ)) (c : ℕ) (o : Option ℕ) → c < length table → o ≡ get_or table c o → slice_get table c ≡ Some o
read table c o low is = slice_get-get_or table c o low ∙ ap (λ (x : Option ℕ). Some x) (sym is)

pub not_some : (o : Option ℕ) (b : Bool) → is_some o ≡ not b → b ≡ true → o ≡ None
not_some None b e t = refl
not_some (Some n) b e t = absurd (let bad : true ≡ false = e ∙ ap not t in cc)

pub not_none : (o : Option ℕ) (b : Bool) → is_some o ≡ not b → b ≡ false → (n : ℕ) × (o ≡ Some n)
not_none (Some n) b e f = (n, refl)
not_none None b e f = absurd (let bad : false ≡ true = e ∙ ap not f in cc)

-- what the table has of a channel
there_of : (order : List ℕ) (table : List (Option ℕ)) (c : ℕ) (o : Option ℕ) → ArePlaces order table → slice_get table c ≡ Some o
    → position (λ other. c == other) order ≡ o
there_of order table c o h here = sym (same_Some o (position (λ other. c == other) order) (sym here ∙ h.places c (slice_get_within table c o here)))

pub fresh : (order : List ℕ) (table : List (Option ℕ)) (c : ℕ) → ArePlaces order table → slice_get table c ≡ Some None
    → with_number order c ≡ order ++ c ∷ []
fresh order table c h here = rw (absent c order (there_of order table c None h here)) refl

pub known : (order : List ℕ) (table : List (Option ℕ)) (c i : ℕ) → ArePlaces order table → slice_get table c ≡ Some (Some i)
    → with_number order c ≡ order
known order table c i h here = rw (present c order i (there_of order table c (Some i) h here)) refl

-- a channel is noted that the table doesn't have yet
pub noted : (order : List ℕ) (table : List (Option ℕ)) (c : ℕ) → ArePlaces order table → slice_get table c ≡ Some None
    → ArePlaces (order ++ c ∷ []) (set table c (Some (length order)))
noted order table c h here =
    let low = slice_get_within table c None here in
    let none = there_of order table c None h here in
    let kept : length (set table c (Some (length order))) ≡ length table = length-set table c (Some (length order)) in
    record {
      places = λ d inside. at d (omega (arith, kept)) inside (eqb_tells d c);
      once = IsDistinct-push nat_eq_equiv order c h.once (absent c order none);
      below = λ d any. within d kept (list_any-append (λ other. d == other) order (c ∷ [])) any;
      few = omega (arith, kept, h.few);
    }
  where
    at : (d : ℕ) → d < length table → d < length (set table c (Some (length order))) → ((eqb d c ≡ true) × (d ≡ c)) ⊎ ((eqb d c ≡ false) × (d ≡ c → ⊥))
        → slice_get (set table c (Some (length order))) d ≡ Some (position (λ other. d == other) (order ++ c ∷ []))
    at d low inside (inl t) =
        let none : position (λ other. d == other) order ≡ None = ap (λ (n : ℕ). position (λ other. n == other) order) t.1 ∙ there_of order table c None h here in
        slice_get-get_or (set table c (Some (length order))) d None inside
        ∙ ap (λ (o : Option ℕ). Some o)
        (ap (λ (n : ℕ). get_or (set table c (Some (length order))) n None) t.1
        ∙ get_or-set_same table c (Some (length order)) None (slice_get_within table c None here)
        ∙ sym (position-added (λ other. d == other) order c none t.0))
    at d low inside (inr f) =
        slice_get-get_or (set table c (Some (length order))) d None inside
        ∙ ap (λ (o : Option ℕ). Some o)
        (get_or-set_other table c d (Some (length order)) None f.1
        ∙ get_or_from_slice_get table d (position (λ other. d == other) order) None (h.places d low)
        ∙ sym (position-skipped (λ other. d == other) order c f.0))

    within : (d : ℕ) → length (set table c (Some (length order))) ≡ length table
        → list_any (λ other. d == other) (order ++ c ∷ []) ≡ (list_any (λ other. d == other) order || list_any (λ other. d == other) (c ∷ []))
        → list_any (λ other. d == other) (order ++ c ∷ []) ≡ true → d < length (set table c (Some (length order)))
    within d kept parts any = by (list_any (λ other. d == other) order) refl
      where
        by : (b : Bool) → list_any (λ other. d == other) order ≡ b → d < length (set table c (Some (length order)))
        by true e = let low = h.below d e in omega arith
        by false e = last (eqb_tells d c)
          where
            last : ((eqb d c ≡ true) × (d ≡ c)) ⊎ ((eqb d c ≡ false) × (d ≡ c → ⊥)) → d < length (set table c (Some (length order)))
            last (inl t) = let low = slice_get_within table c None here in let same = t.1 in omega arith
            last (inr f) = absurd (let bad : true ≡ false = sym any ∙ parts ∙ ap (λ (b : Bool). b || list_any (λ other. d == other) (c ∷ [])) e ∙ (rw f.0 refl) in cc)

-- a channel that stands in the order has a place there
pub placed_at : (order : List ℕ) (table : List (Option ℕ)) (c i : ℕ) → ArePlaces order table → slice_get table c ≡ Some (Some i)
    → position (λ other. c == other) order ≡ Some i
placed_at order table c i h here = there_of order table c (Some i) h here

pub unplaced : (order : List ℕ) (table : List (Option ℕ)) (c : ℕ) → ArePlaces order table → slice_get table c ≡ Some None
    → list_any (λ other. c == other) order ≡ true → ⊥
unplaced order table c h here any = let bad : true ≡ false = sym any ∙ absent c order (there_of order table c None h here) in cc

-- where the order has as many channels as the table, each stands in it
pub all_stand : (order : List ℕ) (table : List (Option ℕ)) (c : ℕ) → ArePlaces order table → length order ≡ length table
    → c < length table → list_any (λ other. c == other) order ≡ true
all_stand order table c h all low = by (get_or table c None) (slice_get-get_or table c None low)
  where
    by : (o : Option ℕ) → slice_get table c ≡ Some o → list_any (λ other. c == other) order ≡ true
    by (Some i) here = present c order i (there_of order table c (Some i) h here)
    by None here =
        let more : length (order ++ c ∷ []) ≤ length (set table c (Some (length order))) = shorter _ _ (noted order table c h here) in
        absurd (omega (arith, more, length-append order (c ∷ []), length-set table c (Some (length order)), all))
