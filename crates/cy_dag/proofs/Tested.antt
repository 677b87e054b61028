-- The first refusal of components, component by component.
use Rattle.std.proofs.Common.{ℕ, Bor, ◌≡◌, ◌+◌, ◌<◌, ◌≤◌, Option, None, List, [], ◌∷◌, ◌++◌, length, map, take, drop, get_or, sym, ap, subst, ◌∙◌}
use Rattle.std.proofs.lemmas.List.{drop_more, take_all}
use Rattle.std.proofs.Math.ListN.{drop_of_length-le}
use Rattle.std.specs.Option.{option_or}
use Rattle.cy_text.specs.Fields.{Fields}
use Rattle.cy_dag.specs.DagFile.{component_of, component_refusal, components_refusal, refusal_behind}
use Rattle.cy_dag.specs.Refusals.{IsDue}
use Rattle.cy_dag.specs.declared.dag.DagComponent.{DagComponent}
use Rattle.cy_dag.specs.declared.error.DagError.{DagError}
use Rattle.cy_dag.specs.declared.error.DagError.TheVariants.{Memory}

-- The components that messages describe.
abbrev pub described : List (Bor Fields) → List DagComponent
described found = map component_of (map (λ (m : Bor Fields). m.now) found)

-- What is refused from a component on.
from_one : (found : List (Bor Fields)) (k : ℕ) (m : Bor Fields) (earlier : List DagComponent) (c : DagComponent) → k < length found → m ≡ get_or found k m → c ≡ component_of m.now
    → refusal_behind earlier (described (drop k found)) ≡ option_or (component_refusal earlier c) (refusal_behind (earlier ++ c ∷ []) (described (drop (k + 1) found)))
from_one found k m earlier c there here is =
    let rest : drop k found ≡ m ∷ drop (k + 1) found = drop_more found k m there ∙ ap (λ (x : Bor Fields). x ∷ drop (k + 1) found) (sym here) in
    let more = described (drop (k + 1) found) in
    ap (λ (ms : List (Bor Fields)). refusal_behind earlier (described ms)) rest
    ∙ ap (λ (x : DagComponent). option_or (component_refusal earlier x) (refusal_behind (earlier ++ x ∷ []) more)) (sym is)

-- One accepted component more.
pub accepted_one : (found : List (Bor Fields)) (k : ℕ) (m : Bor Fields) (earlier lent after : List DagComponent) (c : DagComponent) → k < length found → m ≡ get_or found k m → c ≡ component_of m.now
    → components_refusal (described found) ≡ refusal_behind earlier (described (drop k found)) → lent ≡ earlier → component_refusal lent c ≡ None → after ≡ earlier ++ c ∷ []
    → components_refusal (described found) ≡ refusal_behind after (described (drop (k + 1) found))
accepted_one found k m earlier lent after c there here is before same accepted pushed =
    let more = described (drop (k + 1) found) in
    let none : component_refusal earlier c ≡ None = ap (λ (e : List DagComponent). component_refusal e c) (sym same) ∙ accepted in
    before ∙ from_one found k m earlier c there here is ∙ ap (λ (o : Option DagError). option_or o (refusal_behind (earlier ++ c ∷ []) more)) none
    ∙ ap (λ (e : List DagComponent). refusal_behind e more) (sym pushed)

-- One that is refused.
pub due_first : (due later : Option DagError) (e : DagError) → IsDue due e → IsDue (option_or due later) e
due_first due later Memory is = tt
due_first due later e is = ap (λ (o : Option DagError). option_or o later) is

pub refused_one : (found : List (Bor Fields)) (k : ℕ) (m : Bor Fields) (earlier lent : List DagComponent) (c : DagComponent) (e : DagError) → k < length found → m ≡ get_or found k m → c ≡ component_of m.now
    → components_refusal (described found) ≡ refusal_behind earlier (described (drop k found)) → lent ≡ earlier → IsDue (component_refusal lent c) e → IsDue (components_refusal (described found)) e
refused_one found k m earlier lent c e there here is before same due =
    let later = refusal_behind (earlier ++ c ∷ []) (described (drop (k + 1) found)) in
    let whole = before ∙ from_one found k m earlier c there here is in
    subst (λ (o : Option DagError). IsDue o e) (sym whole) (due_first (component_refusal earlier c) later e (subst (λ (x : List DagComponent). IsDue (component_refusal x c) e) same due))

-- All were accepted.
pub all_accepted : (found : List (Bor Fields)) (k : ℕ) (made : List DagComponent) → length found ≤ k → made ≡ described (take k found)
    → components_refusal (described found) ≡ refusal_behind made (described (drop k found)) → components_refusal made ≡ None
all_accepted found k made end is behind =
    ap components_refusal (is ∙ ap described (take_all k found end)) ∙ behind ∙ ap (λ (ms : List (Bor Fields)). refusal_behind made (described ms)) (drop_of_length-le found end)

pub all_made : (found : List (Bor Fields)) (k : ℕ) (made : List DagComponent) → length found ≤ k → made ≡ described (take k found) → made ≡ described found
all_made found k made end is = is ∙ ap described (take_all k found end)
