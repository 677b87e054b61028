-- The files that are made are read, one after another, and accepted.
use Rattle.std.proofs.Common.{◌≡◌, ◌≤◌, ◌+◌, ◌++◌, ℕ, List, [], ◌∷◌, Ok, Some, None, Option, length, refl, sym, ap, ◌∙◌}
use Rattle.std.specs.FinMap.{get}
use Rattle.std.specs.Str.{IsUtf8}
use Rattle.std.proofs.lemmas.Bool.{le-ltb}
use Rattle.cy_store.specs.Files.{Files}
use Rattle.cy_store.specs.Reads.{Reads, Accepts, ◌>>=◌, file_by}
use Rattle.cy_text.specs.Fields.{Fields}
use Rattle.cy_text.specs.Places.{fields_of_text}
use Rattle.cy_text.specs.Printable.{SameButSpans, without_spans}
use Rattle.cy_dag.specs.Classes.{class_named}
use Rattle.cy_dag.specs.DagFile.{components_of, dag_refusal, unknown_in_dag}
use Rattle.cy_dag.specs.declared.config.Config as dag
use Rattle.cy_dag.specs.declared.dag.DagComponent.{DagComponent}
use Rattle.cy_sched.specs.SchedFile.{default_sched}
use Rattle.cy_setup.specs.Values.{valued_configs}
use Rattle.cy_setup.specs.declared.error.Fault.TheVariants as fault
use Rattle.cy_setup.specs.declared.error.Refusal.{Refusal}
use Rattle.cy_setup.specs.AnswersFile.{answered_by, answered_in, answers_file}
use Rattle.cy_setup.specs.Configuration.{Configured, DagSays, config_by, config_in, configs_from, configs_in, configuration_in, dag_in, dag_of, fields_of, longest_config, refused_in, said_in, sched_in, text_in}
use Rattle.cy_setup.specs.Faults.{in_file}
use Rattle.cy_make.specs.declared.config.Config.{Config}
use Rattle.cy_make.specs.declared.config.Config.TheVariants.{Adder, Band, Last8, Late, Dag}
use Rattle.cy_make.specs.Inputs.{with_inputs}
use Rattle.cy_make.specs.Texts.{dag_fields, longest_prefix, suffix_of, text_of}
use Rattle.cy_make.proofs.Short.{short}
use Rattle.cy_make.proofs.TextRead.{texts_read}
use Rattle.cy_made.proofs.ConfigsMade.{IsTaken, adder_taken, averages, band_taken, filters, holds_back, last8_taken, late_taken, sums}
use Rattle.cy_made.proofs.DagMade.{adder, band, dag_said, dag_taken, last8, late, made}
use Rattle.cy_made.proofs.Found.{config_found}
use Rattle.cy_made.proofs.SameDag.{components_same, dag_same}
use Rattle.cy_made.proofs.TextBytes.{text_bytes}
use Rattle.cy_made.proofs.WiringMade.{configs}

-- one reading after another that accepts
pub follow : {A B : Type 0} (m : Reads Refusal A) (x : A) (next : A → Reads Refusal B) → m ≡ Accepts x → (m >>= next) ≡ next x
follow {A} m x next e = ap (λ (r : Reads Refusal A). r >>= next) e

-- a text that is short
fields_there : (name text : List ℕ) (fields : Fields) → length text ≤ longest_config → fields_of_text text ≡ Ok fields → fields_of text ≡ Ok fields
unfolding fields_of
fields_there name text fields small e = rw (le-ltb longest_config (length text) small, e) refl

text_there : (name text : List ℕ) (fields : Fields) (files : Files) → get files name ≡ Some text → length text ≤ longest_config → fields_of_text text ≡ Ok fields → text_in name files ≡ Accepts fields
text_there name text fields files found small e =
    ap (λ (bytes : Option (List ℕ)). file_by name (λ b. refused_in name (fields_of b)) bytes) found
    ∙ rw (fields_there name text fields small e) refl

-- The DAG file.

accepted : (fields : Fields) → dag_refusal fields ≡ None → dag_of fields ≡ Ok record { components = components_of fields; unknown = unknown_in_dag fields }
accepted fields e = rw e refl

plain_fields : (prefix : List ℕ) → without_spans (dag_fields prefix) ≡ dag_fields prefix
unfolding dag_fields
plain_fields prefix = refl

module _ (n : ℕ) (prefix : List ℕ) (files : Files) (small : length prefix ≤ longest_prefix) (is : IsUtf8 prefix) where
  abbrev pub all : Files
  all = with_inputs n prefix files

  -- the fields of the DAG file, wherever they stand
  pub record DagRead : Type 0 where
    pub fields : Fields
    pub read : fields_of_text (text_of prefix Dag) ≡ Ok fields
    pub same : SameButSpans (dag_fields prefix) fields

  pub dag_read : DagRead
  dag_read =
      let found = texts_read prefix Dag (text_bytes prefix is) in
      record { fields = found.0; read = found.1; same = found.2 }

  abbrev pub says : DagSays
  says = record { components = made prefix; unknown = unknown_in_dag dag_read.fields }

  the_same : without_spans dag_read.fields ≡ dag_fields prefix
  the_same = sym dag_read.same ∙ plain_fields prefix

  refused_not : dag_refusal dag_read.fields ≡ None
  refused_not = sym (dag_same dag_read.fields) ∙ ap dag_refusal the_same ∙ dag_taken prefix is

  has_four : components_of dag_read.fields ≡ made prefix
  has_four = sym (components_same dag_read.fields) ∙ ap components_of the_same ∙ dag_said prefix is

  pub dag_there : dag_in (prefix ++ suffix_of Dag) all ≡ Accepts says
  dag_there =
      follow (text_in (prefix ++ suffix_of Dag) all) dag_read.fields (λ (file : Fields). in_file (prefix ++ suffix_of Dag) fault.Dag (dag_of file)) (text_there (prefix ++ suffix_of Dag) (text_of prefix Dag) dag_read.fields all (config_found n prefix files Dag) (short prefix Dag small) dag_read.read)
      ∙ ap (in_file (prefix ++ suffix_of Dag) fault.Dag) (accepted dag_read.fields refused_not)
      ∙ ap (λ (cs : List DagComponent). Accepts record { components = cs; unknown = unknown_in_dag dag_read.fields }) has_four

  -- The component files.

  said_there : (number : ℕ) (c : DagComponent) (which : Config) (config : dag.Config) → c.config_file_path ≡ prefix ++ suffix_of which → IsTaken number c.class_name (text_of prefix which) config
      → said_in number c all ≡ Accepts config
  said_there number c which config named taken =
      follow (text_in c.config_file_path all) taken.0 (λ (file : Fields). in_file c.config_file_path fault.Dag (config_by number (class_named c.class_name) file)) (text_there c.config_file_path (text_of prefix which) taken.0 all (ap (get all) named ∙ config_found n prefix files which) (short prefix which small) taken.1)
      ∙ ap (in_file c.config_file_path fault.Dag) taken.2

  -- no record of answers is named
  config_there : (number : ℕ) (c : DagComponent) (which : Config) (config : dag.Config) → c.config_file_path ≡ prefix ++ suffix_of which → answers_file config ≡ None → IsTaken number c.class_name (text_of prefix which) config
      → config_in number c all ≡ Accepts config
  config_there number c which config named unasked taken =
      follow (said_in number c all) config (λ (x : dag.Config). answered_in number x all) (said_there number c which config named taken)
      ∙ ap (λ (o : Option (List ℕ)). answered_by o number config all) unasked

  more_there : (number : ℕ) (c : DagComponent) (rest : List DagComponent) (config : dag.Config) (others : List dag.Config) → config_in number c all ≡ Accepts config → configs_from (number + 1) rest all ≡ Accepts others
      → configs_from number (c ∷ rest) all ≡ Accepts (config ∷ others)
  more_there number c rest config others first later =
      follow (config_in number c all) config (λ (x : dag.Config). configs_from (number + 1) rest all >>= λ xs. Accepts (x ∷ xs)) first
      ∙ follow (configs_from (number + 1) rest all) others (λ (xs : List dag.Config). Accepts (config ∷ xs)) later

  abbrev one : DagComponent
  one = adder (prefix ++ suffix_of Adder)

  abbrev two : DagComponent
  two = band (prefix ++ suffix_of Band)

  abbrev three : DagComponent
  three = last8 (prefix ++ suffix_of Last8)

  abbrev four : DagComponent
  four = late (prefix ++ suffix_of Late)

  pub configs_there : configs_in (made prefix) all ≡ Accepts configs
  configs_there =
      more_there 0 one (two ∷ three ∷ four ∷ []) sums (filters ∷ averages ∷ holds_back ∷ []) (config_there 0 one Adder sums refl refl (adder_taken prefix))
      (more_there 1 two (three ∷ four ∷ []) filters (averages ∷ holds_back ∷ []) (config_there 1 two Band filters refl refl (band_taken prefix))
      (more_there 2 three (four ∷ []) averages (holds_back ∷ []) (config_there 2 three Last8 averages refl refl (last8_taken prefix))
      (more_there 3 four [] holds_back [] (config_there 3 four Late holds_back refl refl (late_taken prefix)) refl)))

  abbrev pub configured : Configured
  configured = record { dag = says; configs = configs; sched = default_sched }

  pub configuration_there : configuration_in (prefix ++ suffix_of Dag) None all ≡ Accepts configured
  configuration_there =
      follow (dag_in (prefix ++ suffix_of Dag) all) says
      (λ (d : DagSays). configs_in d.components all >>= λ cs. sched_in None all >>= λ sched. Accepts record { dag = d; configs = valued_configs cs; sched = sched }) dag_there
      ∙ follow (configs_in (made prefix) all) configs (λ (cs : List dag.Config). Accepts record { dag = says; configs = valued_configs cs; sched = default_sched }) configs_there
