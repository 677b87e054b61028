-- What a search finds among answers whose calls rise.
use Rattle.std.proofs.Common.{◌≡◌, ◌≢◌, ℕ, zero, suc, ◌<◌, ◌≤◌, List, [], ◌∷◌, length, Option, Some, None, Result, Ok, Err, IfOk, IfErr, slice_get, refl, sym, subst, ap, ◌∙◌, arith}
use Rattle.std.specs.Prelude.{option_map, slice_index_or}
use Rattle.std.specs.Option.{unwrap_or}
use Rattle.std.specs.List.Sorted.{IsSearchInRange, IsBinarySearchResult, IsNonDecreasingBy}
use Rattle.std.specs.Ordering.{nat_cmp, ordering_index}
use Rattle.std.proofs.lemmas.Cmp.{ranked}
use Rattle.std.proofs.lemmas.List.Sorted.{IsNonDecreasingBy-from_default}
use Rattle.std.proofs.lemmas.Option.{slice_get-get_or}
use Rattle.std.proofs.lemmas.Bool.Decides.{nat_tests}
use Rattle.std.proofs.lemmas.Grind.{common_steps}
use Rattle.cy_comp.specs.declared.answers.Answer.{Answer}
use Rattle.cy_comp.specs.Answers.{answered, call_at, CallsRise}
use Rattle.cy_comp.specs.private.Searches.{IsAt, IsGapFor}

abbrev nobody : Answer
nobody = record { call = 0; whole = None; origin = 0; content = [] }

-- the call of the answer at a place, read with a default
call_read : (answers : List Answer) (i : ℕ) → (slice_index_or answers i nobody).call ≡ call_at answers i
call_read [] i = refl
call_read (a ∷ rest) zero = refl
call_read (a ∷ rest) (suc i) = call_read rest i

module _ (answers : List Answer) (rise : CallsRise answers) (call : ℕ) where
  -- the comparisons with a call rise along the answers, as a search asks
  comparisons_rise : IsNonDecreasingBy (λ (a : Answer). ordering_index (nat_cmp a.call call)) answers
  comparisons_rise = IsNonDecreasingBy-from_default (λ (a : Answer). ordering_index (nat_cmp a.call call)) answers nobody (λ i j le in_range.
      let calls_rise : call_at answers i ≤ call_at answers j = grind (arith, rise i j, λ (same : i ≡ j). ap (call_at answers) same) in
      grind (arith, nat_tests, call_read answers i, call_read answers j))

  -- a search ends at the answer of the call, or at the gap for it
  pub searched : (r : Result ℕ ℕ) → IsSearchInRange r (length answers) → IsBinarySearchResult (λ (a : Answer). nat_cmp a.call call) answers r → record { found : IfOk r (IsAt answers call); absent : IfErr r (IsGapFor answers call) }
  searched (Ok at) in_range equal = record { found = record { in_range = in_range; is_its = sym (call_read answers at) ∙ ranked _ call _ (sym (equal nobody)) }; absent = tt }
  searched (Err at) in_range parted = record {
    found = tt;
    absent = record {
      in_range = in_range;
      earlier_before = λ j lt. let r = ranked _ call _ (sym ((parted comparisons_rise).0 j nobody (omega arith) lt)) in omega (arith, r, call_read answers j);
      later_from = λ j le lt. let r = ranked _ call _ (sym ((parted comparisons_rise).1 j nobody le lt)) in omega (arith, r, call_read answers j);
    };
  }

-- no answer before a place is of a call
abbrev NoneBefore : List Answer → ℕ → ℕ → Type 0
NoneBefore answers call place = (j : ℕ) → j < place → call_at answers j ≢ call

none_in_tail : (a : Answer) (rest : List Answer) (call place : ℕ) → NoneBefore (a ∷ rest) call (suc place) → NoneBefore rest call place
none_in_tail a rest call place none j lt = none (suc j) (omega (arith, lt))

-- a call that no answer is of has none
absent : (answers : List Answer) (call : ℕ) → NoneBefore answers call (length answers) → answered answers call ≡ None
absent [] call none = refl
absent (a ∷ rest) call none = grind (arith, nat_tests, none 0 (omega arith), absent rest call (none_in_tail a rest call _ none))

-- the first answer of a call is its answer
present : (answers : List Answer) (call place : ℕ) (a : Answer) → slice_get answers place ≡ Some a → a.call ≡ call → NoneBefore answers call place → answered answers call ≡ Some a
present [] call place a at its none = absurd (grind (arith, common_steps))
present (x ∷ rest) call zero a at its none = grind (arith, nat_tests, common_steps)
present (x ∷ rest) call (suc place) a at its none = grind (arith, nat_tests, none 0 (omega arith), present rest call place a at its (none_in_tail x rest call place none))

pub found_is : (answers : List Answer) → CallsRise answers → (call place : ℕ) → IsAt answers call place → (a : Answer) → slice_get answers place ≡ Some a → answered answers call ≡ Some a
found_is answers rise call place at a there =
    let its : a.call ≡ call = sym (ap (λ o. unwrap_or (option_map (λ (b : Answer). b.call) o) 0) there) ∙ at.is_its in
    present answers call place a there its (λ j lt same. omega (arith, rise j place lt at.in_range, at.is_its, same))

pub gap_is : (answers : List Answer) (call place : ℕ) → IsGapFor answers call place → answered answers call ≡ None
gap_is answers call place gap = absent answers call (λ j lt same. grind (arith, gap.earlier_before j, gap.later_from j))

-- the same of answers that are read twice
module _ (now inside slice again : List Answer) (call place : ℕ) (shown : inside ≡ now) (first : slice ≡ inside) (second : again ≡ inside) where
  pub found_read : CallsRise inside → IsAt slice call place → (a : Answer) → a ≡ slice_index_or again place a → Some a ≡ answered now call
  found_read rise at a is =
      let here : IsAt inside call place = subst (λ (l : List Answer). IsAt l call place) first at in
      let read : slice_index_or inside place a ≡ a = ap (λ (l : List Answer). slice_index_or l place a) (sym second) ∙ sym is in
      let there : slice_get inside place ≡ Some a = slice_get-get_or inside place a here.in_range ∙ ap (λ (b : Answer). Some b) read in
      sym (found_is inside rise call place here a there) ∙ ap (λ (l : List Answer). answered l call) shown

  pub gap_read : IsGapFor slice call place → None ≡ answered now call
  gap_read gap = sym (gap_is inside call place (subst (λ (l : List Answer). IsGapFor l call place) first gap)) ∙ ap (λ (l : List Answer). answered l call) shown
