-- There is a file for each component, of its class.
use Rattle.std.proofs.Common.{ℕ, ◌+◌, ◌≡◌, ◌≤◌, ◌<◌, ◌⊎◌, List, [], ◌∷◌, ◌++◌, length, take, slice_get, Some, refl, sym, ap, subst, ◌∙◌, arith, get_or, inl, inr}
use Rattle.std.proofs.lemmas.List.{take_more, take_all, length_push}
use Rattle.std.proofs.lemmas.Option.{slice_get_within}
use Rattle.cy_msg.proofs.OnceSteps.{slice_get-push_cases}
use Rattle.cy_wiring.specs.Wiring.{AreConfigs}
use Rattle.cy_dag.specs.Classes.{IsOfClass}
use Rattle.cy_dag.specs.declared.config.Config.{Config}
use Rattle.cy_dag.specs.declared.dag.DagComponent.{DagComponent}

pub none_fit : AreConfigs [] []
none_fit = record { each = refl; fit = λ i c config e d. absurd cc }

-- one component and its file more
one_fits : (components : List DagComponent) (configs : List Config) (c : DagComponent) (config : Config) → AreConfigs components configs → IsOfClass c.class_name config → AreConfigs (components ++ c ∷ []) (configs ++ config ∷ [])
one_fits components configs c config so_far is = record {
  each = length_push configs config ∙ ap (λ (n : ℕ). n + 1) so_far.each ∙ sym (length_push components c);
  fit = λ i d other e f. at i d other (slice_get-push_cases components c i d e) (slice_get-push_cases configs config i other f);
}
  where
    at : (i : ℕ) (d : DagComponent) (other : Config) → (slice_get components i ≡ Some d) ⊎ ((i ≡ length components) × (c ≡ d)) → (slice_get configs i ≡ Some other) ⊎ ((i ≡ length configs) × (config ≡ other)) → IsOfClass d.class_name other
    at i d other (inl e) (inl f) = so_far.fit i d other e f
    at i d other (inl e) (inr f) = absurd (omega (arith, slice_get_within components i d e, f.0, so_far.each))
    at i d other (inr e) (inl f) = absurd (omega (arith, slice_get_within configs i other f, e.0, so_far.each))
    at i d other (inr e) (inr f) = subst (λ (x : DagComponent). IsOfClass x.class_name other) e.1 (subst (λ (y : Config). IsOfClass c.class_name y) f.1 is)

pub next_fits : (components : List DagComponent) (n : ℕ) (c : DagComponent) (configs : List Config) (config : Config) → AreConfigs (take n components) configs → n < length components → c ≡ get_or components n c → IsOfClass c.class_name config
    → AreConfigs (take (n + 1) components) (configs ++ config ∷ [])
next_fits components n c configs config so_far within at is =
    subst (λ (cs : List DagComponent). AreConfigs cs (configs ++ config ∷ [])) (sym (take_more components n c within ∙ ap (λ (d : DagComponent). take n components ++ d ∷ []) (sym at))) (one_fits (take n components) configs c config so_far is)

pub all_fit : (components : List DagComponent) (n : ℕ) (configs : List Config) → length components ≤ n → AreConfigs (take n components) configs → AreConfigs components configs
all_fit components n configs end fit = subst (λ (cs : List DagComponent). AreConfigs cs configs) (take_all n components end) fit
