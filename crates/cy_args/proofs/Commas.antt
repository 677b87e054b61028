-- The parts of a list between commas, part by part.
use Rattle.std.proofs.Common.{ℕ, ◌≡◌, ◌+◌, ◌-◌, ◌<◌, ◌≤◌, ◌==◌, All, false, List, [], ◌∷◌, ◌++◌, length, take, drop, get_or, refl, sym, ap, subst, ◌∙◌, arith, append_assoc, length-drop}
use Rattle.std.proofs.lemmas.List.{take-append-drop, drop-drop, drop_more, get_or-drop, take_all}
use Rattle.std.proofs.lemmas.List.Elements.{All-nil, All-more}
use Rattle.std.proofs.lemmas.List.Splits.{slice_split_none, slice_split_at}
use Rattle.std.proofs.lemmas.Str.{IsCharBoundary-after_ascii, IsCharBoundary-before_ascii}
use Rattle.std.specs.Str.{IsUtf8, IsCharBoundary}
use Rattle.cy_args.specs.FilterWords.{names_in}

-- what stands from a place on, before another one
abbrev pub part_at : List ℕ → ℕ → ℕ → List ℕ
part_at list start place = take (place - start) (drop start list)

abbrev pub IsNoComma : ℕ → Type 0
IsNoComma b = (b == 44) ≡ false

-- the parts that end before a place, and the start of the one that goes on there
pub record PartsSoFar (list : List ℕ) (parts : List (List ℕ)) (start place : ℕ) : Type 0 where
  pub begun : start ≤ place
  pub boundary : 0 < start → IsCharBoundary list start
  pub plain : All IsNoComma (part_at list start place)
  pub found : parts ++ names_in (drop start list) ≡ names_in list

pub none_yet : (list : List ℕ) → PartsSoFar list [] 0 0
none_yet list = record { begun = omega arith; boundary = λ some. absurd (omega arith); plain = All-nil IsNoComma; found = refl }

-- no comma at a place
pub goes_on : (list : List ℕ) (parts : List (List ℕ)) (start place : ℕ) → PartsSoFar list parts start place → place < length list → IsNoComma (get_or list place 0) → PartsSoFar list parts start (place + 1)
goes_on list parts start place so below other =
    let begun = so.begun in
    let there : start + (place - start) ≡ place = omega arith in
    let next : place + 1 - start ≡ place - start + 1 = omega arith in
    let here : get_or (drop start list) (place - start) 0 ≡ get_or list place 0 = get_or-drop start list (place - start) 0 ∙ ap (λ (n : ℕ). get_or list n 0) there in
    let more = All-more IsNoComma (drop start list) (place - start) 0 (omega (arith, length-drop start list)) so.plain (ap (λ (b : ℕ). b == 44) here ∙ other) in
    record {
      begun = omega arith;
      boundary = so.boundary;
      plain = subst (λ (n : ℕ). All IsNoComma (take n (drop start list))) (sym next) more;
      found = so.found;
    }

-- a part, and what stands from it on
part_and : (list : List ℕ) (start place : ℕ) → start ≤ place → place < length list → drop start list ≡ part_at list start place ++ get_or list place 0 ∷ drop (place + 1) list
part_and list start place begun below =
    let there : start + (place - start) ≡ place = omega arith in
    sym (take-append-drop (place - start) (drop start list))
    ∙ ap (λ (bs : List ℕ). part_at list start place ++ bs) (drop-drop (place - start) start list ∙ ap (λ (n : ℕ). drop n list) there ∙ drop_more list place 0 below)

-- a comma at a place, which ends a part
pub part_ends : (list : List ℕ) (parts after : List (List ℕ)) (part : List ℕ) (start place : ℕ) → IsUtf8 list → PartsSoFar list parts start place → place < length list → get_or list place 0 ≡ 44
    → part ≡ part_at list start place → after ≡ parts ++ part ∷ [] → PartsSoFar list after (place + 1) (place + 1)
part_ends list parts after part start place utf8 so below comma is pushed =
    let none : place + 1 - (place + 1) ≡ 0 = omega arith in
    let rest = drop (place + 1) list in
    let cut : names_in (drop start list) ≡ part_at list start place ∷ names_in rest =
    ap names_in (part_and list start place so.begun below)
    ∙ slice_split_at (λ b. b == 44) (part_at list start place) (get_or list place 0) rest so.plain (ap (λ (b : ℕ). b == 44) comma) in
    record {
      begun = omega arith;
      boundary = λ some. IsCharBoundary-after_ascii list place utf8 below (omega (arith, comma));
      plain = subst (λ (n : ℕ). All IsNoComma (take n (drop (place + 1) list))) (sym none) (All-nil IsNoComma);
      found = ap (λ (xs : List (List ℕ)). xs ++ names_in rest) (pushed ∙ ap (λ (p : List ℕ). parts ++ p ∷ []) is) ∙ append_assoc parts (part_at list start place ∷ []) (names_in rest)
          ∙ ap (λ (xs : List (List ℕ)). parts ++ xs) (sym cut) ∙ so.found;
    }

pub ends_at : (list : List ℕ) (place : ℕ) → place < length list → get_or list place 0 ≡ 44 → IsCharBoundary list place
ends_at list place below comma = IsCharBoundary-before_ascii list place below (omega (arith, comma))

-- no byte is left
pub all_parts : (list : List ℕ) (parts after : List (List ℕ)) (part : List ℕ) (start place : ℕ) → PartsSoFar list parts start place → length list ≤ place → part ≡ drop start list → after ≡ parts ++ part ∷ []
    → after ≡ names_in list
all_parts list parts after part start place so end is pushed =
    let whole : part_at list start place ≡ drop start list = take_all (place - start) (drop start list) (omega (arith, length-drop start list)) in
    let none : All IsNoComma (drop start list) = subst (All IsNoComma) whole so.plain in
    pushed ∙ ap (λ (p : List ℕ). parts ++ p ∷ []) is ∙ ap (λ (xs : List (List ℕ)). parts ++ xs) (sym (slice_split_none (λ b. b == 44) (drop start list) none)) ∙ so.found
