-- The values that files say, file by file, and the files with them.
use Rattle.std.proofs.Common.{ℕ, zero, suc, ◌≡◌, ◌+◌, ◌<◌, true, List, [], ◌∷◌, ◌++◌, length, map, take, get_or, slice_get, Option, Some, None, refl, sym, ap, subst, ◌∙◌, append_assoc, append-nil}
use Rattle.std.specs.List.{flat_map, list_all}
use Rattle.std.proofs.lemmas.Grind.{flat_map-append}
use Rattle.std.proofs.lemmas.List.{map-append, take_more, length-map}
use Rattle.cy_answers.specs.Valued.{valued, valued_by}
use Rattle.cy_comp.specs.Kind.{is_kind_in_range}
use Rattle.cy_comp.specs.declared.answers.Answer.{Answer}
use Rattle.cy_comp.specs.declared.kind.Kind.{Kind}
use Rattle.cy_comp.specs.declared.kind.Kind.TheVariants as kind
use Rattle.cy_dag.specs.Classes.{class_named, class_of}
use Rattle.cy_wiring.specs.Wiring.{AreConfigs}
use Rattle.cy_dag.specs.Classes.{IsOfClass}
use Rattle.cy_dag.specs.declared.config.Config.{Config}
use Rattle.cy_dag.specs.declared.dag.DagComponent.{DagComponent}
use Rattle.cy_value.specs.declared.form.ValueForm.{ValueForm}
use Rattle.cy_value.specs.declared.values.ChannelValue.{ChannelValue}
use Rattle.cy_wiring.specs.Given.{values_of}
use Rattle.cy_setup.specs.Values.{valued_config, valued_configs, valued_kind}

-- those of one item more
pub found_more : {A B : Type 0} (f : A → List B) (xs : List A) (k : ℕ) (x : A) (ys zs : List B) → k < length xs → x ≡ get_or xs k x
    → ys ≡ flat_map f (take k xs) → zs ≡ ys ++ f x → zs ≡ flat_map f (take (k + 1) xs)
found_more {A} {B} f xs k x ys zs there here before joined =
    let front : take (k + 1) xs ≡ take k xs ++ x ∷ [] = take_more xs k x there ∙ ap (λ (e : A). take k xs ++ e ∷ []) (sym here) in
    joined ∙ ap (λ (bs : List B). bs ++ f x) before
    ∙ sym (ap (flat_map f) front ∙ flat_map-append f (take k xs) (x ∷ []) ∙ ap (λ (bs : List B). flat_map f (take k xs) ++ bs) (append-nil (f x)))

-- one item more behind some
pub behind_more : {A : Type 0} (base xs : List A) (k : ℕ) (x y : A) (ys zs : List A) → k < length xs → x ≡ get_or xs k x → ys ≡ base ++ take k xs → y ≡ x → zs ≡ ys ++ y ∷ [] → zs ≡ base ++ take (k + 1) xs
behind_more {A} base xs k x y ys zs there here before is pushed =
    let front : take (k + 1) xs ≡ take k xs ++ x ∷ [] = take_more xs k x there ∙ ap (λ (e : A). take k xs ++ e ∷ []) (sym here) in
    pushed ∙ ap (λ (e : A). ys ++ e ∷ []) is ∙ ap (λ (bs : List A). bs ++ x ∷ []) before ∙ append_assoc base (take k xs) (x ∷ []) ∙ sym (ap (λ (bs : List A). base ++ bs) front)

-- the files behind those that are made
pub record AreValued (values : List ChannelValue) (all left made : List Config) : Type 0 where
  pub so_far : map (valued_config values) all ≡ made ++ map (valued_config values) left

pub first_valued : (values : List ChannelValue) (all left : List Config) (made : List Config) → made ≡ [] → left ≡ all → AreValued values all left made
first_valued values all left made none is = rw (none, is) record { so_far = refl }

pub next_valued : (values : List ChannelValue) (all left rest made more : List Config) (c valued : Config) → left ≡ c ∷ rest → valued ≡ valued_config values c → more ≡ made ++ valued ∷ [] → AreValued values all left made
    → AreValued values all rest more
next_valued values all left rest made more c valued at is pushed h = record {
  so_far = h.so_far ∙ ap (λ (cs : List Config). made ++ map (valued_config values) cs) at ∙ sym (append_assoc made (valued_config values c ∷ []) (map (valued_config values) rest))
      ∙ ap (λ (cs : List Config). cs ++ map (valued_config values) rest) (sym (pushed ∙ ap (λ (v : Config). made ++ v ∷ []) is));
}

none_left : {X : Type 0} (xs : List X) → length xs ≡ 0 → xs ≡ []
none_left [] e = refl
none_left (x ∷ xs) e = cc

pub all_valued : (values : List ChannelValue) (all left made : List Config) → length left ≡ 0 → AreValued values all left made → made ≡ map (valued_config values) all
all_valued values all left made none h =
    sym (h.so_far ∙ ap (λ (cs : List Config). made ++ map (valued_config values) cs) (none_left left none) ∙ append-nil made)

-- a value changes neither an answer's origin nor a class
origins : (form : ValueForm) (answers : List Answer) → is_kind_in_range (kind.External (valued (Some form) answers)) ≡ is_kind_in_range (kind.External answers)
origins form [] = refl
origins form (a ∷ rest) = rw (origins form rest) refl

in_range : (form : Option ValueForm) (k : Kind) → is_kind_in_range (valued_kind form k) ≡ is_kind_in_range k
in_range None (kind.External answers) = refl
in_range (Some form) (kind.External answers) = origins form answers
in_range form kind.Pass = refl
in_range form (kind.Filter lo hi) = refl
in_range form kind.Sum = refl
in_range form kind.Count = refl
in_range form kind.Max = refl
in_range form (kind.Window n) = refl
in_range form kind.Change = refl
in_range form kind.Select = refl
in_range form (kind.Hold delay) = refl
in_range form (kind.Take n) = refl

of_class : (form : Option ValueForm) (k : Kind) → class_of (valued_kind form k) ≡ class_of k
of_class form (kind.External answers) = refl
of_class form kind.Pass = refl
of_class form (kind.Filter lo hi) = refl
of_class form kind.Sum = refl
of_class form kind.Count = refl
of_class form kind.Max = refl
of_class form (kind.Window n) = refl
of_class form kind.Change = refl
of_class form kind.Select = refl
of_class form (kind.Hold delay) = refl
of_class form (kind.Take n) = refl

still_fits : (values : List ChannelValue) (name : List ℕ) (config : Config) → IsOfClass name config → IsOfClass name (valued_config values config)
still_fits values name config is =
    (is.0 ∙ sym (ap Some (of_class _ config.kind)), in_range _ config.kind ∙ is.1)

got : {A B : Type 0} (f : A → B) (xs : List A) (i : ℕ) (y : B) → slice_get (map f xs) i ≡ Some y → (x : A) × (slice_get xs i ≡ Some x) × (y ≡ f x)
got f [] i y e = cc
got f (x ∷ xs) zero y e = (x, refl, cc)
got f (x ∷ xs) (suc i) y e = got f xs i y e

-- there still is one for each component
pub are_valued : (components : List DagComponent) (configs : List Config) → AreConfigs components configs → AreConfigs components (valued_configs configs)
are_valued components configs fit = record {
  each = length-map configs (valued_config (values_of configs)) ∙ fit.each;
  fit = λ i c config e d. let was = got (valued_config (values_of configs)) configs i config d in
      subst (IsOfClass c.class_name) (sym was.2) (still_fits (values_of configs) c.class_name was.0 (fit.fit i c was.0 e was.1));
}
