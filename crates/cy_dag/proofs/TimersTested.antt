-- The first refusal of timer components, one by one.
use Rattle.std.proofs.Common.{ℕ, Bor, ◌≡◌, ◌+◌, ◌<◌, ◌≤◌, Option, None, List, [], ◌∷◌, ◌++◌, length, map, take, drop, get_or, sym, ap, subst, ◌∙◌, append_assoc, arith}
use Rattle.std.proofs.lemmas.List.{drop_more, length-append, length-map, length-take-le, map-append, take_all, take_more}
use Rattle.std.proofs.Math.ListN.{drop_of_length-le}
use Rattle.std.specs.Option.{option_or}
use Rattle.cy_text.specs.Fields.{Fields}
use Rattle.cy_dag.specs.DagFile.{timer_of, timer_refusal, timers_refusal}
use Rattle.cy_dag.specs.Refusals.{IsDue}
use Rattle.cy_dag.specs.declared.dag.DagComponent.{DagComponent}
use Rattle.cy_dag.specs.declared.error.DagError.{DagError}
use Rattle.cy_dag.proofs.Tested.{due_first}

-- What messages say.
abbrev pub said : List (Bor Fields) → List Fields
said found = map (λ (m : Bor Fields). m.now) found

module _ (timers : List (Bor Fields)) (k : ℕ) (m : Bor Fields) (earlier : List DagComponent) (there : k < length timers) (here : m ≡ get_or timers k m) where
  -- What is refused from one on.
  from_one : timers_refusal earlier (said (drop k timers)) ≡ option_or (timer_refusal earlier m.now) (timers_refusal (earlier ++ timer_of m.now ∷ []) (said (drop (k + 1) timers)))
  from_one =
      let rest : drop k timers ≡ m ∷ drop (k + 1) timers = drop_more timers k m there ∙ ap (λ (x : Bor Fields). x ∷ drop (k + 1) timers) (sym here) in
      ap (λ (ms : List (Bor Fields)). timers_refusal earlier (said ms)) rest

  module _ (first : List DagComponent) (before : timers_refusal first (said timers) ≡ timers_refusal earlier (said (drop k timers))) (lent : List DagComponent) (same : lent ≡ earlier) where
    -- One accepted timer component more.
    pub accepted_one : (after : List DagComponent) → timer_refusal lent m.now ≡ None → after ≡ earlier ++ timer_of m.now ∷ [] → timers_refusal first (said timers) ≡ timers_refusal after (said (drop (k + 1) timers))
    accepted_one after accepted pushed =
        let more = said (drop (k + 1) timers) in
        let none : timer_refusal earlier m.now ≡ None = ap (λ (e : List DagComponent). timer_refusal e m.now) (sym same) ∙ accepted in
        before ∙ from_one ∙ ap (λ (o : Option DagError). option_or o (timers_refusal (earlier ++ timer_of m.now ∷ []) more)) none
        ∙ ap (λ (e : List DagComponent). timers_refusal e more) (sym pushed)

    -- One that is refused.
    pub refused_one : (e : DagError) → IsDue (timer_refusal lent m.now) e → IsDue (timers_refusal first (said timers)) e
    refused_one e due =
        let later = timers_refusal (earlier ++ timer_of m.now ∷ []) (said (drop (k + 1) timers)) in
        subst (λ (o : Option DagError). IsDue o e) (sym (before ∙ from_one)) (due_first (timer_refusal earlier m.now) later e (subst (λ (x : List DagComponent). IsDue (timer_refusal x m.now) e) same due))

  -- The components that are there with one more.
  pub pushed_one : (first after : List DagComponent) → earlier ≡ first ++ map timer_of (said (take k timers)) → after ≡ earlier ++ timer_of m.now ∷ [] → after ≡ first ++ map timer_of (said (take (k + 1) timers))
  pushed_one first after made pushed =
      let front : take (k + 1) timers ≡ take k timers ++ m ∷ [] = take_more timers k m there ∙ ap (λ (x : Bor Fields). take k timers ++ x ∷ []) (sym here) in
      let more : map timer_of (said (take (k + 1) timers)) ≡ map timer_of (said (take k timers)) ++ timer_of m.now ∷ [] =
      ap (λ (ms : List (Bor Fields)). map timer_of (said ms)) front ∙ ap (map timer_of) (map-append (λ (x : Bor Fields). x.now) (take k timers) (m ∷ [])) ∙ map-append timer_of (said (take k timers)) (m.now ∷ []) in
      pushed ∙ ap (λ (x : List DagComponent). x ++ timer_of m.now ∷ []) made ∙ append_assoc first (map timer_of (said (take k timers))) (timer_of m.now ∷ []) ∙ ap (λ (x : List DagComponent). first ++ x) (sym more)

-- There is room for each.
pub few_there : (timers : List (Bor Fields)) (k : ℕ) (first earlier : List DagComponent) → k < length timers → earlier ≡ first ++ map timer_of (said (take k timers)) → length first + length timers ≤ 64 → length earlier ≤ 64
few_there timers k first earlier there made few =
    omega (
      arith,
      ap (λ (x : List DagComponent). length x) made,
      length-append first (map timer_of (said (take k timers))),
      length-map (said (take k timers)) timer_of,
      length-map (take k timers) (λ (m : Bor Fields). m.now),
      length-take-le k timers (omega arith),
    )

-- All were accepted.
pub all_accepted : (timers : List (Bor Fields)) (k : ℕ) (first made : List DagComponent) → length timers ≤ k → timers_refusal first (said timers) ≡ timers_refusal made (said (drop k timers)) → timers_refusal first (said timers) ≡ None
all_accepted timers k first made end before = before ∙ ap (λ (ms : List (Bor Fields)). timers_refusal made (said ms)) (drop_of_length-le timers end)

pub all_pushed : (timers : List (Bor Fields)) (k : ℕ) (first made : List DagComponent) → length timers ≤ k → made ≡ first ++ map timer_of (said (take k timers)) → made ≡ first ++ map timer_of (said timers)
all_pushed timers k first made end is = is ∙ ap (λ (ms : List (Bor Fields)). first ++ map timer_of (said ms)) (take_all k timers end)
