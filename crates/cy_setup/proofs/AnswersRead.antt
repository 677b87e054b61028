-- The answers of a component, read behind its file.
use Rattle.std.proofs.Common.{ℕ, ◌≡◌, List, Option, Some, None, IfSome, Result, Ok, Err, refl, sym, ap, subst, ◌∙◌, inl, inr}
use Rattle.std.specs.Prelude.{IsSome, true}
use Rattle.cy_store.specs.Files.{Files}
use Rattle.cy_store.specs.Reads.{Reads, Accepts, Refuses, ◌>>=◌}
use Rattle.cy_store.specs.Store.{StoreView, SameCounts}
use Rattle.cy_answers.specs.Answers.{IsDue, answers_refusal, messages_on}
use Rattle.cy_answers.specs.declared.error.AnswersError.{AnswersError}
use Rattle.cy_answers.specs.declared.error.AnswersError.TheVariants as answers_error
use Rattle.cy_comp.specs.Kind.{is_kind_in_range}
use Rattle.cy_comp.specs.declared.kind.Kind.{Kind}
use Rattle.cy_comp.specs.declared.kind.Kind.TheVariants as kind
use Rattle.cy_dag.specs.Classes.{class_of}
use Rattle.cy_dag.specs.Classes.{IsOfClass}
use Rattle.cy_dag.specs.declared.class.Class.TheVariants.{External}
use Rattle.cy_dag.specs.declared.config.Config.{Config}
use Rattle.cy_dag.specs.declared.dag.DagComponent.{DagComponent}
use Rattle.cy_reader.specs.Record.{Contents}
use Rattle.cy_setup.specs.AnswersFile.{answered_by, answered_in, answers_file, answers_name, judged_answers, with_answers}
use Rattle.cy_setup.specs.Comes.{ComesTo}
use Rattle.cy_setup.specs.Configuration.{config_in, said_in, IsAskedFor}
use Rattle.cy_setup.specs.Faults.{in_file, unless}
use Rattle.cy_setup.specs.RecordFile.{record_in}
use Rattle.cy_setup.specs.Steps.{IsFault, answers_fault}
use Rattle.cy_setup.specs.declared.answers.Answered.{Answered}
use Rattle.cy_setup.specs.declared.error.Fault.{Fault}
use Rattle.cy_setup.specs.declared.error.Fault.TheVariants as fault
use Rattle.cy_setup.specs.declared.error.Refusal.{Refusal}
use Rattle.cy_setup.specs.declared.error.SetupError.{SetupError}
use Rattle.cy_setup.specs.private.Answered.{AreInRange, config_given, config_with}
use Rattle.cy_setup.proofs.Coming.{comes_err, comes_ok, comes_then, told_map}
use Rattle.cy_setup.proofs.Judged.{first_err, then_fault, then_value}

-- What is answered in place of a value is answered of any reading that comes to the same.
pub comes_error : {X Y A : Type 0} (v : X → A) (w : Y → A) (reads : Files → Reads Refusal A) (P : List ℕ → Type 0) (old new : StoreView) (e : SetupError)
    → (let r : Result X SetupError = Err e in ComesTo v reads P old new r) → (let r : Result Y SetupError = Err e in ComesTo w reads P old new r)
comes_error v w reads P old new e c = record {
  accepted = tt;
  refused = λ refusal is. c.refused refusal (ap Err (err_is is));
  failed = λ file is. c.failed file (ap Err (err_is is));
  same = c.same;
  faults_stay = c.faults_stay;
  misses_stay = c.misses_stay;
}
  where
    err_is : {T : Type 0} {a b : SetupError} → (let r : Result T SetupError = Err a in r ≡ Err b) → a ≡ b
    err_is e = cc

pub comes_value : {X Y A : Type 0} (v : X → A) (w : Y → A) (reads : Files → Reads Refusal A) (P : List ℕ → Type 0) (old new : StoreView) (x : X) (y : Y) → v x ≡ w y → ComesTo v reads P old new (Ok x) → ComesTo w reads P old new (Ok y)
comes_value v w reads P old new x y is c = comes_ok w reads P old new y record { same = c.same; counts = c.accepted.0 } (told_map old.files (λ m was. was ∙ ap Accepts is) c.accepted.1)

-- No record is named.
pub nothing_named : (number : ℕ) (config : Config) (view : StoreView) → None ≡ answers_file config → ComesTo (config_given config) (answered_in number config) (λ file. answers_file config ≡ Some file) view view (Ok None)
nothing_named number config view none =
    comes_ok (config_given config) (answered_in number config) (λ f. answers_file config ≡ Some f) view view None record { same = refl; counts = record { faults = refl; misses = refl } }
    (always view.files (λ m. ap (λ o. answered_by o number config m) (sym none)))
  where
    always : {P : Files → Type 0} (files : Option Files) → ((m : Files) → P m) → IfSome files P
    always None h = tt
    always (Some m) h = h m

-- What is due is the fault that is told.
due_is : (due : Option AnswersError) (e : AnswersError) (g : Fault) → IsDue due e → answers_fault e ≡ Some g → (due ≡ Some e) × (fault.Answers e ≡ g)
due_is due answers_error.Memory g is e = absurd cc
due_is due e g is told = (is, cc)

-- A record is named, and what it comes to.
module _ (number : ℕ) (config : Config) (name : List ℕ) (named : Some name ≡ answers_file config) where
  abbrev next : Contents → Reads Refusal Config
  next whole = in_file name fault.Answers (judged_answers number whole config)

  abbrev Asked : List ℕ → Type 0
  Asked file = answers_file config ≡ Some file

  asked : (file : List ℕ) → file ≡ name → Asked file
  asked file is = sym named ∙ ap Some (sym is)

  by_name : (old new : StoreView) (r : Result (Option Answered) SetupError) → ComesTo (config_given config) (λ m. record_in name m >>= next) Asked old new r → ComesTo (config_given config) (answered_in number config) Asked old new r
  by_name old new r c = subst (λ o. ComesTo (config_given config) (answered_by o number config) Asked old new r) named c

  pub record_stops : (old new : StoreView) (e : SetupError) → (let r : Result Contents SetupError = Err e in ComesTo (λ t. t) (record_in name) (λ file. file ≡ name) old new r)
      → (let r : Result (Option Answered) SetupError = Err e in ComesTo (config_given config) (answered_in number config) Asked old new r)
  record_stops old new e came = by_name old new (Err e) (first_err (config_given config) (record_in name) next (λ file. file ≡ name) Asked old new e asked came)

  module _ (whole : Contents) (old new : StoreView) (came : ComesTo (λ t. t) (record_in name) (λ file. file ≡ name) old new (Ok whole)) where
    pub answers_accepted : (a : Answered) → answers_refusal (messages_on config.out whole) ≡ None → config_with config a ≡ with_answers number whole config
        → ComesTo (config_given config) (answered_in number config) Asked old new (Ok (Some a))
    answers_accepted a none is = by_name old new (Ok (Some a)) (then_value (config_given config) (record_in name) next (λ file. file ≡ name) Asked old new whole (Some a) came
        (ap (λ (refusal : Option AnswersError). in_file name fault.Answers (unless refusal (with_answers number whole config))) none ∙ ap Accepts (sym is)))

    pub answers_refused : (e : AnswersError) (answer : SetupError) → IsFault name (answers_fault e) answer → IsDue (answers_refusal (messages_on config.out whole)) e
        → (let r : Result (Option Answered) SetupError = Err answer in ComesTo (config_given config) (answered_in number config) Asked old new r)
    answers_refused e answer is due = by_name old new (Err answer) (then_fault (config_given config) (record_in name) next (λ file. file ≡ name) Asked old new whole name (answers_fault e) answer came is told)
      where
        told : (g : Fault) → answers_fault e ≡ Some g → next whole ≡ Refuses record { file = name; fault = g }
        told g h =
            let p = due_is (answers_refusal (messages_on config.out whole)) e g due h in
            ap (λ (refusal : Option AnswersError). in_file name fault.Answers (unless refusal (with_answers number whole config))) p.0
            ∙ ap (λ (f : Fault). let r : Reads Refusal Config = Refuses record { file = name; fault = f } in r) p.1

-- A component file that names such a record is of the class whose answers come from one.
external_class : (k : Kind) (name : List ℕ) → IsSome (answers_name k name) → class_of k ≡ External
external_class (kind.External answers) name some = refl
external_class kind.Pass name some = absurd cc
external_class (kind.Filter lo hi) name some = absurd cc
external_class kind.Sum name some = absurd cc
external_class kind.Count name some = absurd cc
external_class kind.Max name some = absurd cc
external_class (kind.Window n) name some = absurd cc
external_class kind.Change name some = absurd cc
external_class kind.Select name some = absurd cc
external_class (kind.Hold delay) name some = absurd cc
external_class (kind.Take n) name some = absurd cc

pub same_class : (class_name : List ℕ) (config : Config) (a : Answered) → IsSome (answers_file config) → AreInRange a → IsOfClass class_name config → IsOfClass class_name (config_with config a)
same_class class_name config a some range is = (is.0 ∙ ap Some (external_class config.kind config.options.answers some), range)

-- The file of a component, and behind it its answers.
pub said_stops : (n : ℕ) (c : DagComponent) (old new : StoreView) (e : SetupError) → (let r : Result Config SetupError = Err e in ComesTo (λ t. t) (said_in n c) (λ file. file ≡ c.config_file_path) old new r)
    → (let r : Result Config SetupError = Err e in ComesTo (λ t. t) (config_in n c) (IsAskedFor n c old.files) old new r)
said_stops n c old new e came = comes_err (λ (t : Config). t) (said_in n c) (λ config m. answered_in n config m) (IsAskedFor n c old.files) old new e (λ file is. inl is) came

pub said_answered : (n : ℕ) (c : DagComponent) (old mid new : StoreView) (config : Config) (r : Result Config SetupError) → ComesTo (λ t. t) (said_in n c) (λ file. file ≡ c.config_file_path) old mid (Ok config)
    → ComesTo (λ t. t) (answered_in n config) (λ file. answers_file config ≡ Some file) mid new r → ComesTo (λ t. t) (config_in n c) (IsAskedFor n c old.files) old new r
said_answered n c old mid new config r came answered =
    comes_then (λ (t : Config). t) (said_in n c) (λ x m. answered_in n x m) (λ file. answers_file config ≡ Some file) (IsAskedFor n c old.files) old mid new config r record { same = came.same; counts = came.accepted.0 } came.accepted.1
    (λ file named. inr record { says = config; read = came.accepted.1; named = named }) answered
