-- Parts of a trace that are pushed one behind another.
use Rattle.std.proofs.Common.{ℕ, ◌+◌, ◌<◌, ◌≤◌, ◌≡◌, ◌∙◌, ap, sym, List, [], ◌∷◌, ◌++◌, length, drop, get_or, arith, append_assoc, append-nil}
use Rattle.std.proofs.lemmas.List.{drop_more, drop_all, length-map}
use Rattle.cy_comp.specs.declared.plan.Plan.{Plan}
use Rattle.wake_core.specs.Run.{Run, route_of, routes_of}
use Rattle.wake_core.specs.declared.route.Route.{Route}
use Rattle.cy_trace_text.specs.TraceText.{component_text, components_text}

-- one component more
pub component_added : (version : ℕ) (w : Run) (plans : List Plan) (n : ℕ) (p : Plan) (to new whole : List ℕ) → n < length plans → p ≡ get_or plans n p → to ++ components_text version w n (drop n plans) ≡ whole → new ≡ to ++ component_text version p (w.arrivals n) (w.calls n) (w.ended n)
    → new ++ components_text version w (n + 1) (drop (n + 1) plans) ≡ whole
component_added version w plans n p to new whole inside read so is =
    let rest = drop (n + 1) plans in
    ap (λ (l : List ℕ). l ++ components_text version w (n + 1) rest) is
    ∙ append_assoc to (component_text version p (w.arrivals n) (w.calls n) (w.ended n)) (components_text version w (n + 1) rest)
    ∙ ap (λ (q : Plan). to ++ components_text version w n (q ∷ rest)) read
    ∙ ap (λ (l : List Plan). to ++ components_text version w n l) (sym (drop_more plans n p inside))
    ∙ so

-- and none is left
pub components_end : (version : ℕ) (w : Run) (plans : List Plan) (n : ℕ) (to whole : List ℕ) → length plans ≤ n → to ++ components_text version w n (drop n plans) ≡ whole → to ≡ whole
components_end version w plans n to whole end so = sym (ap (λ (l : List Plan). to ++ components_text version w n l) (drop_all n plans end) ∙ append-nil to) ∙ so

-- a wiring's components are those of its world
pub component_known : (plans : List Plan) (routes : List Route) (n : ℕ) → routes ≡ routes_of plans → n < length plans → n < length routes
component_known plans routes n is inside =
    let many = length-map plans route_of in
    let same : length routes ≡ length (routes_of plans) = ap (λ (l : List Route). length l) is in
    omega (arith, many, same, inside)
