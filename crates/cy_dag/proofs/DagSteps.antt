-- The first refusal of a DAG file, test by test.
use Rattle.std.proofs.Common.{ℕ, Bor, ◌≡◌, ◌+◌, ◌≤◌, Option, None, Result, Vec, Global, List, [], ◌∷◌, ◌++◌, length, map, option_map, codes, refl, sym, ap, subst, ◌∙◌, arith}
use Rattle.std.specs.Prelude.{IfOk, IfErr, OnOk}
use Rattle.std.specs.List.{flat_map}
use Rattle.std.proofs.lemmas.List.{length-append, length-map}
use Rattle.cy_text.specs.Fields.{Fields}
use Rattle.cy_config.specs.Lookups.{messages_under}
use Rattle.cy_config.specs.Checks.{first_misfit}
use Rattle.cy_config.specs.Refusals.{first_of}
use Rattle.cy_dag.specs.Format.{dag_field}
use Rattle.cy_dag.specs.Refusals.{IsDue}
use Rattle.cy_dag.specs.DagFile.{in_modules, component_of, components_of, components_refusal, count_refusal, described, described_refusal, fields_refusal, dag_refusal, timer_of, timers_refusal}
use Rattle.cy_dag.specs.declared.format.DagMessage.TheVariants.{File}
use Rattle.cy_dag.specs.declared.dag.DagComponent.{DagComponent}
use Rattle.cy_dag.specs.declared.error.DagError.{DagError}
use Rattle.cy_dag.specs.declared.error.DagError.TheVariants.{Shape, Memory}

pub none_due : (a b c : Option DagError) → a ≡ None → b ≡ None → c ≡ None → first_of (a ∷ b ∷ c ∷ []) ≡ None
none_due a b c p q r = rw (p, q, r) refl

pub first_due : (a b c : Option DagError) (e : DagError) → IsDue a e → IsDue (first_of (a ∷ b ∷ c ∷ [])) e
first_due a b c Memory due = tt
first_due a b c e due = rw due refl

pub second_due : (a b c : Option DagError) (e : DagError) → a ≡ None → IsDue b e → IsDue (first_of (a ∷ b ∷ c ∷ [])) e
second_due a b c Memory none due = tt
second_due a b c e none due = rw (none, due) refl

pub third_due : (a b c : Option DagError) (e : DagError) → a ≡ None → b ≡ None → IsDue c e → IsDue (first_of (a ∷ b ∷ c ∷ [])) e
third_due a b c Memory none also due = tt
third_due a b c e none also due = rw (none, also, due) refl

-- What is found in all modules.
pub found_is : (name : List ℕ) (file : Fields) (found modules lent : List (Bor Fields)) → map (λ m. m.now) modules ≡ messages_under (codes "module_config") file → lent ≡ modules
    → map (λ m. m.now) found ≡ flat_map (messages_under name) (map (λ m. m.now) lent) → map (λ m. m.now) found ≡ in_modules name file
found_is name file found modules lent first same is = is ∙ ap (λ xs. flat_map (messages_under name) (map (λ m. m.now) xs)) same ∙ ap (flat_map (messages_under name)) first

-- Of two tests the first refuses, or the second does, or none.
pub front_due : (a b : Option DagError) (e : DagError) → IsDue a e → IsDue (first_of (a ∷ b ∷ [])) e
front_due a b Memory due = tt
front_due a b e due = rw due refl

pub back_due : (a b : Option DagError) (e : DagError) → a ≡ None → IsDue b e → IsDue (first_of (a ∷ b ∷ [])) e
back_due a b Memory none due = tt
back_due a b e none due = rw (none, due) refl

pub both_none : (a b : Option DagError) → a ≡ None → b ≡ None → first_of (a ∷ b ∷ []) ≡ None
both_none a b p q = rw (p, q) refl

-- How many messages there are.
pub so_many : (found timers : List (Bor Fields)) (n : ℕ) → n ≡ length found + length timers → n ≡ length (map (λ m. m.now) found) + length (map (λ m. m.now) timers)
so_many found timers n is = omega (arith, is, length-map found (λ (m : Bor Fields). m.now), length-map timers (λ (m : Bor Fields). m.now))

-- Messages that describe components and timer components, so many together.
module _ (cs ts : List Fields) (n : ℕ) (count : n ≡ length cs + length ts) where
  abbrev counts : Option DagError
  counts = count_refusal (length cs + length ts)

  abbrev components : Option DagError
  components = components_refusal (map component_of cs)

  abbrev timers : Option DagError
  timers = timers_refusal (map component_of cs) ts

  few : count_refusal n ≡ None → counts ≡ None
  few counted = ap count_refusal (sym count) ∙ counted

  -- There are too few or too many, or a component is refused.
  pub count_due : (e : DagError) → IsDue (count_refusal n) e → IsDue (described_refusal cs ts) e
  count_due e due = first_due counts components timers e (subst (λ (x : ℕ). IsDue (count_refusal x) e) count due)

  pub components_due : (e : DagError) → count_refusal n ≡ None → IsDue components e → IsDue (described_refusal cs ts) e
  components_due e counted due = second_due counts components timers e (few counted) due

  module _ (made : List DagComponent) (are : made ≡ map component_of cs) (counted : count_refusal n ≡ None) (tested : components_refusal made ≡ None) where
    accepted : components ≡ None
    accepted = ap components_refusal (sym are) ∙ tested

    -- Or a timer component is, or none.
    pub timers_due : (e : DagError) → IsDue (timers_refusal made ts) e → IsDue (described_refusal cs ts) e
    timers_due e due = third_due counts components timers e (few counted) accepted (subst (λ (x : List DagComponent). IsDue (timers_refusal x ts) e) are due)

    pub all_accepted : timers_refusal made ts ≡ None → described_refusal cs ts ≡ None
    all_accepted timed = none_due counts components timers (few counted) accepted (ap (λ (x : List DagComponent). timers_refusal x ts) (sym are) ∙ timed)

  module _ (made all : List DagComponent) (are : made ≡ map component_of cs) (pushed : all ≡ made ++ map timer_of ts) where
    pub all_described : all ≡ described cs ts
    all_described = pushed ∙ ap (λ (x : List DagComponent). x ++ map timer_of ts) are

    long : length all ≡ n
    long = omega (arith, ap (λ (x : List DagComponent). length x) all_described, length-append (map component_of cs) (map timer_of ts), length-map cs component_of, length-map ts timer_of, count)

    pub few_described : (1 ≤ n) × (n ≤ 64) → (1 ≤ length all) × (length all ≤ 64)
    few_described bounds = (omega (arith, long, bounds.0), omega (arith, long, bounds.1))

-- The messages are those of a file.
module _ (file : Fields) (cs ts : List Fields) (are : cs ≡ in_modules (codes "components") file) (timed : ts ≡ in_modules (codes "timer_components") file) (r : Result (Vec DagComponent Global) DagError) where
  pub all_components : IfOk r (λ xs. xs.items ≡ described cs ts) → IfOk r (λ xs. xs.items ≡ components_of file)
  all_components h =
      subst (λ (x : List Fields). IfOk r (λ xs. xs.items ≡ described (in_modules (codes "components") file) x)) timed (subst (λ (x : List Fields). IfOk r (λ xs. xs.items ≡ described x ts)) are h)

  pub fields_accepted : OnOk r (described_refusal cs ts ≡ None) → OnOk r (fields_refusal file ≡ None)
  fields_accepted h =
      subst (λ (x : List Fields). OnOk r (described_refusal (in_modules (codes "components") file) x ≡ None)) timed (subst (λ (x : List Fields). OnOk r (described_refusal x ts ≡ None)) are h)

  pub fields_refused : IfErr r (IsDue (described_refusal cs ts)) → IfErr r (IsDue (fields_refusal file))
  fields_refused h =
      subst (λ (x : List Fields). IfErr r (IsDue (described_refusal (in_modules (codes "components") file) x))) timed (subst (λ (x : List Fields). IfErr r (IsDue (described_refusal x ts))) are h)

-- A file whose fields are of their kinds.
module _ (file : Fields) where
  abbrev shape : Option DagError
  shape = option_map (λ path. Shape path) (first_misfit dag_field File [] file)

  pub fields_due : (e : DagError) → first_misfit dag_field File [] file ≡ None → IsDue (fields_refusal file) e → IsDue (dag_refusal file) e
  fields_due e fits due = back_due shape (fields_refusal file) e (ap (option_map (λ path. Shape path)) fits) due

  pub dag_accepted : first_misfit dag_field File [] file ≡ None → fields_refusal file ≡ None → dag_refusal file ≡ None
  dag_accepted fits accepted = both_none shape (fields_refusal file) (ap (option_map (λ path. Shape path)) fits) accepted
