-- What the file of a component says, by the class that its name stands for.
use Rattle.std.proofs.Common.{ℕ, Bor, ◌≡◌, Bool, false, [], ◌∷◌, codes, option_map, is_none, is_some, not, refl, List, Option, Some, None, Result, Ok, Err, ap, sym, ◌∙◌}
use Rattle.std.specs.Prelude.{IfOk, IfErr}
use Rattle.std.proofs.lemmas.Bool.{false≢true}
use Rattle.cy_text.specs.Fields.{Fields}
use Rattle.cy_config.specs.Lookups.{text_under}
use Rattle.cy_fuse.specs.declared.overflow.Overflow.{Overflow}
use Rattle.cy_dag.specs.Classes.{class_named}
use Rattle.cy_dag.specs.ConfigFile.{IsConfig, class_refusal, config_of, config_refusal, file_rows, kind_refusal, out_refusal, overflow_of, overflow_refusal, parameter_rows, values_refusal}
use Rattle.cy_dag.specs.Options.{option_rows, refusal_among}
use Rattle.cy_dag.specs.Refusals.{IsDue}
use Rattle.cy_dag.specs.Classes.{IsKindOf, IsOfClass}
use Rattle.cy_dag.specs.declared.class.Class.{Class}
use Rattle.cy_dag.specs.declared.config.Config.{Config}
use Rattle.cy_dag.specs.declared.error.DagError.{DagError}
use Rattle.cy_dag.specs.declared.error.DagError.TheVariants.{Missing, NotOverflow}
use Rattle.cy_dag.specs.DagFile.{refuse_if}
use Rattle.cy_dag.proofs.LoopSteps.{head_due, tail_due, tail_none}

pub config_by_class : (component : ℕ) (o : Option Class) (class : Class) (file : Fields) (r : Result Config DagError) → Some class ≡ o → IfOk r (λ config. class_refusal component class file ≡ None)
    → IfOk r (λ config. config ≡ config_of class file) → IfOk r (λ config. (config_refusal component o file ≡ None) × IsConfig o file config)
config_by_class component o class file (Ok config) is accepted made = rw (sym is) (accepted, made)
config_by_class component o class file (Err e) is accepted made = tt

pub of_class : (name : List ℕ) (class : Class) (r : Result Config DagError) → Some class ≡ class_named name → IfOk r (λ config. IsKindOf class config.kind) → IfOk r (IsOfClass name)
of_class name class (Ok config) is kind = (sym is ∙ ap Some (sym kind.0), kind.1)
of_class name class (Err e) is kind = tt

pub refused_by_class : (component : ℕ) (o : Option Class) (class : Class) (file : Fields) (r : Result Config DagError) → Some class ≡ o → IfErr r (IsDue (class_refusal component class file)) → IfErr r (IsDue (config_refusal component o file))
refused_by_class component o class file (Ok config) is due = tt
refused_by_class component o class file (Err e) is due = rw (sym is) due

-- A text that was found is there.
there : (o : Option (Bor (List ℕ))) (t : Option (List ℕ)) (b : Bool) → option_map (λ x. x.now) o ≡ t → is_some o ≡ not b → b ≡ false → is_none t ≡ false
there None t b is none found = absurd (false≢true (none ∙ ap not found))
there (Some x) t b is none found = ap is_none (sym is)

-- An option is refused behind fields that are accepted.
pub options_due : (component : ℕ) (c : Class) (file : Fields) (e : DagError) (out : Option (Bor (List ℕ))) (overflow : Overflow) (b : Bool) → option_map (λ x. x.now) out ≡ text_under (codes "out") file → is_some out ≡ not b → b ≡ false
    → overflow_of file ≡ Some overflow → kind_refusal component c file ≡ None → IsDue (refusal_among (option_rows c) component file) e → IsDue (values_refusal component c file) e
options_due component c file e out overflow b is none found goes kinds due =
    let written : out_refusal component file ≡ None = ap (λ (x : Bool). refuse_if x (Missing component (codes "out"))) (there out (text_under (codes "out") file) b is none found) in
    let overflows : overflow_refusal component file ≡ None = ap (λ (o : Option Overflow). refuse_if (is_none o) (NotOverflow component)) goes in
    let front : refusal_among file_rows component file ≡ None = tail_none (out_refusal component file) (overflow_refusal component file ∷ []) written (tail_none (overflow_refusal component file) [] overflows refl) in
    let options : Option DagError = refusal_among (option_rows c) component file in
    tail_due (refusal_among file_rows component file) (refusal_among (parameter_rows c) component file ∷ options ∷ []) e front
    (tail_due (refusal_among (parameter_rows c) component file) (options ∷ []) e kinds (head_due options [] e due))
