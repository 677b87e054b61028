-- The first refusal of a wiring, test by test.
use Rattle.std.proofs.Common.{ℕ, Bor, ◌≡◌, Option, None, Result, List, [], ◌∷◌, length, map, refl, ap, sym, subst, ◌∙◌}
use Rattle.std.specs.Prelude.{IfOk, IfErr}
use Rattle.std.specs.List.{zip}
use Rattle.cy_wiring.specs.Given.{all_given_refusal}
use Rattle.cy_dag.specs.Refusals.{IsDue}
use Rattle.cy_wiring.specs.Triggers.{cycle_refusal, triggers_of}
use Rattle.cy_wiring.specs.Wiring.{channels_refusal, named, names_of, outs_refusal, wire_refusal}
use Rattle.cy_dag.specs.declared.config.Config.{Config}
use Rattle.cy_dag.specs.declared.dag.DagComponent.{DagComponent}
use Rattle.cy_dag.specs.declared.error.DagError.{DagError}
use Rattle.cy_dag.proofs.LoopSteps.{head_due, tail_due, tail_none}

-- So many names are mentioned.
pub count_due : (all : List (List ℕ)) (n : ℕ) (e : DagError) → n ≡ length (named all) → IsDue (channels_refusal n) e → IsDue (channels_refusal (length (named all))) e
count_due all n e is due = subst (λ (x : ℕ). IsDue (channels_refusal x) e) is due

pub few_named : (all ns : List (List ℕ)) (n : ℕ) → n ≡ length (named all) → channels_refusal n ≡ None → ns ≡ named all → (channels_refusal (length ns) ≡ None) × (ns ≡ named all)
few_named all ns n count few is = (ap (λ (xs : List (List ℕ)). channels_refusal (length xs)) is ∙ ap channels_refusal (sym count) ∙ few, is)

-- The names of all mentions are those of the list that is lent.
module _ (all : List (List ℕ)) (ms lent : List (Bor (List ℕ))) (are : map (λ m. m.now) ms ≡ all) (same : lent ≡ ms) (r : Result (List (List ℕ)) DagError) where
  shown : map (λ m. m.now) lent ≡ all
  shown = ap (λ (xs : List (Bor (List ℕ))). map (λ (m : Bor (List ℕ)). m.now) xs) same ∙ are

  pub names_accepted : IfOk r (λ ns. (channels_refusal (length ns) ≡ None) × (ns ≡ named (map (λ m. m.now) lent))) → IfOk r (λ ns. (channels_refusal (length ns) ≡ None) × (ns ≡ named all))
  names_accepted is = subst (λ (xs : List (List ℕ)). IfOk r (λ ns. (channels_refusal (length ns) ≡ None) × (ns ≡ named xs))) shown is

  pub names_refused : IfErr r (IsDue (channels_refusal (length (named (map (λ m. m.now) lent))))) → IfErr r (IsDue (channels_refusal (length (named all))))
  names_refused due = subst (λ (xs : List (List ℕ)). IfErr r (IsDue (channels_refusal (length (named xs))))) shown due

module _ (channels : List (List ℕ)) (cs : List DagComponent) (configs : List Config) where
  abbrev outs : Option DagError
  outs = outs_refusal cs configs

  abbrev triggers : Option DagError
  triggers = cycle_refusal (triggers_of cs configs)

  abbrev given : Option DagError
  given = all_given_refusal cs configs

  abbrev named_count : Option DagError
  named_count = channels_refusal (length (names_of channels (zip cs configs)))

  -- The tests from each one on.
  abbrev from_triggers : List (Option DagError)
  from_triggers = triggers ∷ given ∷ named_count ∷ []

  module _ (lent : List DagComponent) (is : lent ≡ cs) where
    pub outs_due : (e : DagError) → IsDue (outs_refusal lent configs) e → IsDue (wire_refusal channels cs configs) e
    outs_due e due = head_due outs from_triggers e (subst (λ (x : List DagComponent). IsDue (outs_refusal x configs) e) is due)

    module _ (apart : outs_refusal lent configs ≡ None) where
      lawful : outs ≡ None
      lawful = ap (λ (x : List DagComponent). outs_refusal x configs) (sym is) ∙ apart

      pub cycles_due : (e : DagError) → IsDue (cycle_refusal (triggers_of lent configs)) e → IsDue (wire_refusal channels cs configs) e
      cycles_due e due =
          tail_due outs from_triggers e lawful (head_due triggers (given ∷ named_count ∷ []) e (subst (λ (x : List DagComponent). IsDue (cycle_refusal (triggers_of x configs)) e) is due))

      module _ (none : cycle_refusal (triggers_of lent configs) ≡ None) where
        ends : triggers ≡ None
        ends = ap (λ (x : List DagComponent). cycle_refusal (triggers_of x configs)) (sym is) ∙ none

        pub given_due : (e : DagError) → IsDue (all_given_refusal lent configs) e → IsDue (wire_refusal channels cs configs) e
        given_due e due =
            tail_due outs from_triggers e lawful (tail_due triggers (given ∷ named_count ∷ []) e ends
            (head_due given (named_count ∷ []) e (subst (λ (x : List DagComponent). IsDue (all_given_refusal x configs) e) is due)))

        module _ (fit : all_given_refusal lent configs ≡ None) where
          agree : given ≡ None
          agree = ap (λ (x : List DagComponent). all_given_refusal x configs) (sym is) ∙ fit

          pub channels_due : (e : DagError) → IsDue (channels_refusal (length (names_of channels (zip lent configs)))) e → IsDue (wire_refusal channels cs configs) e
          channels_due e due =
              tail_due outs from_triggers e lawful (tail_due triggers (given ∷ named_count ∷ []) e ends (tail_due given (named_count ∷ []) e agree
              (head_due named_count [] e (subst (λ (x : List DagComponent). IsDue (channels_refusal (length (names_of channels (zip x configs)))) e) is due))))

          pub wire_accepted : (names : List (List ℕ)) → (channels_refusal (length names) ≡ None) × (names ≡ names_of channels (zip lent configs)) → wire_refusal channels cs configs ≡ None
          wire_accepted names few =
              let counted : named_count ≡ None = ap (λ (x : List DagComponent). channels_refusal (length (names_of channels (zip x configs)))) (sym is) ∙ ap (λ (x : List (List ℕ)). channels_refusal (length x)) (sym few.1) ∙ few.0 in
              tail_none outs from_triggers lawful (tail_none triggers (given ∷ named_count ∷ []) ends (tail_none given (named_count ∷ []) agree (tail_none named_count [] counted refl)))
