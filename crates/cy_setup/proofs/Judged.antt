-- A file whose text is read, and is then judged by itself.
use Rattle.std.proofs.Common.{ℕ, ◌≡◌, List, Option, Some, None, Result, Ok, Err, refl, sym, ap, ◌∙◌}
use Rattle.cy_store.specs.Files.{Files}
use Rattle.cy_store.specs.Reads.{Reads, Accepts, Refuses, ◌>>=◌}
use Rattle.cy_store.specs.Store.{StoreView}
use Rattle.cy_text.specs.Fields.{Fields}
use Rattle.cy_dag.specs.DagFile.{dag_refusal, components_of, unknown_in_dag}
use Rattle.cy_dag.specs.ConfigFile.{config_refusal, IsConfig}
use Rattle.cy_dag.specs.Classes.{class_named}
use Rattle.cy_dag.specs.Refusals.{IsDue}
use Rattle.cy_dag.specs.declared.class.Class.{Class}
use Rattle.cy_dag.specs.declared.config.Config.{Config}
use Rattle.cy_dag.specs.declared.dag.Dag.{Dag}
use Rattle.cy_dag.specs.declared.dag.DagComponent.{DagComponent}
use Rattle.cy_dag.specs.declared.error.DagError.{DagError}
use Rattle.cy_dag.specs.declared.error.DagError.TheVariants as dag_error
use Rattle.cy_sched.specs.SchedFile.{sched_refusal, sched_of}
use Rattle.cy_sched.specs.Refusals as sched
use Rattle.cy_sched.specs.declared.error.SchedError.{SchedError}
use Rattle.cy_sched.specs.declared.sched.Sched.{Sched}
use Rattle.cy_sched.specs.declared.error.SchedError.TheVariants as sched_error
use Rattle.cy_setup.specs.declared.error.Fault.{Fault}
use Rattle.cy_setup.specs.declared.error.Fault.TheVariants as fault
use Rattle.cy_setup.specs.declared.error.Refusal.{Refusal}
use Rattle.cy_setup.specs.declared.error.SetupError.{SetupError}
use Rattle.cy_setup.specs.Faults.{in_file, unless}
use Rattle.cy_setup.specs.Configuration.{DagSays, dag_of, config_by}
use Rattle.cy_setup.specs.Steps.{IsFault, dag_says, dag_fault, sched_fault}
use Rattle.cy_setup.specs.Comes.{ComesTo}
use Rattle.cy_setup.proofs.Coming.{told_map, comes_err, comes_ok, comes_fault}

pub first_err : {A Y B : Type 0} (w : Y → B) (reads : Files → Reads Refusal A) (next : A → Reads Refusal B) (P Q : List ℕ → Type 0) (old new : StoreView) (e : SetupError) → ((file : List ℕ) → P file → Q file)
    → (let r : Result A SetupError = Err e in ComesTo (λ t. t) reads P old new r) → (let r : Result Y SetupError = Err e in ComesTo w (λ m. reads m >>= next) Q old new r)
first_err w reads next P Q old new e more c = comes_err w reads (λ x m. next x) Q old new e more c

pub then_value : {A Y B : Type 0} (w : Y → B) (reads : Files → Reads Refusal A) (next : A → Reads Refusal B) (P Q : List ℕ → Type 0) (old new : StoreView) (x : A) (y : Y) → ComesTo (λ t. t) reads P old new (Ok x) → next x ≡ Accepts (w y)
    → ComesTo w (λ m. reads m >>= next) Q old new (Ok y)
then_value w reads next P Q old new x y c is =
    comes_ok w (λ m. reads m >>= next) Q old new y record { same = c.same; counts = c.accepted.0 } (told_map old.files (λ m was. ap (λ q. q >>= next) was ∙ is) c.accepted.1)

pub then_fault : {A Y B : Type 0} (w : Y → B) (reads : Files → Reads Refusal A) (next : A → Reads Refusal B) (P Q : List ℕ → Type 0) (old new : StoreView) (x : A) (name : List ℕ) (f : Option Fault) (answer : SetupError)
    → ComesTo (λ t. t) reads P old new (Ok x) → IsFault name f answer → ((g : Fault) → f ≡ Some g → next x ≡ Refuses record { file = name; fault = g }) → (let r : Result Y SetupError = Err answer in ComesTo w (λ m. reads m >>= next) Q old new r)
then_fault w reads next P Q old new x name f answer c is told =
    comes_fault w (λ m. reads m >>= next) Q old new name f answer record { same = c.same; counts = c.accepted.0 } is (λ g e. told_map old.files (λ m was. ap (λ q. q >>= next) was ∙ told g e) c.accepted.1)

pub dag_accepted : (name : List ℕ) (file : Fields) (dag : Dag) → (dag_refusal file ≡ None) × (dag.components ≡ components_of file) → dag.unknown ≡ unknown_in_dag file → in_file name fault.Dag (dag_of file) ≡ Accepts (dag_says dag)
dag_accepted name file dag accepted unknown =
    ap (λ (refusal : Option DagError). let says : DagSays = record { components = components_of file; unknown = unknown_in_dag file } in in_file name fault.Dag (unless refusal says)) accepted.0
    ∙ ap (λ (cs : List DagComponent). let says : DagSays = record { components = cs; unknown = unknown_in_dag file } in let r : Reads Refusal DagSays = Accepts says in r) (sym accepted.1)
    ∙ ap (λ (us : List (List ℕ)). let says : DagSays = record { components = dag.components; unknown = us } in let r : Reads Refusal DagSays = Accepts says in r) (sym unknown)

pub due_is : (due : Option DagError) (e : DagError) (g : Fault) → IsDue due e → dag_fault e ≡ Some g → (due ≡ Some e) × (fault.Dag e ≡ g)
due_is due dag_error.Memory g is e = absurd cc
due_is due e g is told = (is, cc)

pub dag_refused : (name : List ℕ) (file : Fields) (e : DagError) → IsDue (dag_refusal file) e → (g : Fault) → dag_fault e ≡ Some g → in_file name fault.Dag (dag_of file) ≡ Refuses record { file = name; fault = g }
dag_refused name file e due g told =
    let p = due_is (dag_refusal file) e g due told in
    ap (λ (refusal : Option DagError). let says : DagSays = record { components = components_of file; unknown = unknown_in_dag file } in in_file name fault.Dag (unless refusal says)) p.0
    ∙ ap (λ (f : Fault). let r : Reads Refusal DagSays = Refuses record { file = name; fault = f } in r) p.1

config_due : (component : ℕ) (c : Option Class) (file : Fields) (e : DagError) → config_refusal component c file ≡ Some e → config_by component c file ≡ Err e
config_due component None file e is = cc
config_due component (Some c) file e is = rw is refl

config_given : (component : ℕ) (c : Option Class) (file : Fields) (config : Config) → config_refusal component c file ≡ None → IsConfig c file config → config_by component c file ≡ Ok config
config_given component None file config none is = absurd is
config_given component (Some c) file config none is = rw (none, is) refl

-- the class by its name, as it was given
abbrev by_class : List ℕ → ℕ → Fields → List ℕ → Reads Refusal Config
by_class name component file class = in_file name fault.Dag (config_by component (class_named class) file)

pub config_accepted : (name : List ℕ) (component : ℕ) (class given : List ℕ) (file : Fields) (config : Config) → given ≡ class → (config_refusal component (class_named given) file ≡ None) × IsConfig (class_named given) file config
    → in_file name fault.Dag (config_by component (class_named class) file) ≡ Accepts config
config_accepted name component class given file config same is =
    ap (by_class name component file) (sym same) ∙ ap (in_file name fault.Dag) (config_given component (class_named given) file config is.0 is.1)

pub config_refused : (name : List ℕ) (component : ℕ) (class given : List ℕ) (file : Fields) (e : DagError) → given ≡ class → IsDue (config_refusal component (class_named given) file) e → (g : Fault) → dag_fault e ≡ Some g
    → in_file name fault.Dag (config_by component (class_named class) file) ≡ Refuses record { file = name; fault = g }
config_refused name component class given file e same due g told =
    let p = due_is (config_refusal component (class_named given) file) e g due told in
    ap (by_class name component file) (sym same) ∙ ap (in_file name fault.Dag) (config_due component (class_named given) file e p.0) ∙ ap (λ (f : Fault). let r : Reads Refusal Config = Refuses record { file = name; fault = f } in r) p.1

sched_due_is : (due : Option SchedError) (e : SchedError) (g : Fault) → sched.IsDue due e → sched_fault e ≡ Some g → (due ≡ Some e) × (fault.Sched e ≡ g)
sched_due_is due sched_error.Memory g is e = absurd cc
sched_due_is due e g is told = (is, cc)

pub sched_accepted : (name : List ℕ) (file : Fields) (s : Sched) → (sched_refusal file ≡ None) × (s ≡ sched_of file) → in_file name fault.Sched (unless (sched_refusal file) (sched_of file)) ≡ Accepts s
sched_accepted name file s is =
    ap (λ (refusal : Option SchedError). in_file name fault.Sched (unless refusal (sched_of file))) is.0 ∙ ap Accepts (sym is.1)

pub sched_refused : (name : List ℕ) (file : Fields) (e : SchedError) → sched.IsDue (sched_refusal file) e → (g : Fault) → sched_fault e ≡ Some g
    → in_file name fault.Sched (unless (sched_refusal file) (sched_of file)) ≡ Refuses record { file = name; fault = g }
sched_refused name file e due g told =
    let p = sched_due_is (sched_refusal file) e g due told in
    ap (λ (refusal : Option SchedError). in_file name fault.Sched (unless refusal (sched_of file))) p.0
    ∙ ap (λ (f : Fault). let r : Reads Refusal Sched = Refuses record { file = name; fault = f } in r) p.1
