-- What the configuration files of a replay come to: a DAG file, the component files that it names,
-- in the order of the DAG, each with its answers, and a scheduler file. The first thing in the way
-- stands.
use Rattle.std.specs.Prelude.{ℕ, ◌+◌, ◌≡◌, ◌⊎◌, nat_lt, List, [], ◌∷◌, length, Option, Some, None}
use Rattle.std.specs.Prelude.{IfSome, slice_get}
use Rattle.std.specs.Prelude.{Result, Ok, Err, if◌then◌else◌, map}
use Rattle.cy_store.specs.Files.{Files}
use Rattle.cy_store.specs.Reads.{Reads, Accepts, ◌>>=◌, file_in}
use Rattle.cy_text.specs.Fields.{Fields}
use Rattle.cy_text.specs.Places.{fields_of_text}
use Rattle.cy_text.specs.declared.error.TextError.{TextError}
use Rattle.cy_dag.specs.Classes.{class_named}
use Rattle.cy_dag.specs.DagFile.{dag_refusal, components_of, unknown_in_dag}
use Rattle.cy_dag.specs.ConfigFile.{class_refusal, config_of}
use Rattle.cy_dag.specs.declared.class.Class.{Class}
use Rattle.cy_dag.specs.declared.config.Config.{Config}
use Rattle.cy_dag.specs.declared.dag.DagComponent.{DagComponent}
use Rattle.cy_dag.specs.declared.error.DagError.{DagError}
use Rattle.cy_dag.specs.declared.error.DagError.TheVariants as dag_error
use Rattle.cy_sched.specs.SchedFile.{sched_refusal, sched_of, default_sched}
use Rattle.cy_sched.specs.declared.sched.Sched.{Sched}
use Rattle.cy_setup.specs.declared.error.Fault.{Fault}
use Rattle.cy_setup.specs.declared.error.Fault.TheVariants as fault
use Rattle.cy_setup.specs.declared.error.Refusal.{Refusal}
use Rattle.cy_setup.specs.AnswersFile.{answered_in, answers_file}
use Rattle.cy_setup.specs.Faults.{unless, in_file}
use Rattle.cy_setup.specs.Values.{valued_configs}

-- The longest configuration file that is read, in bytes.
abbrev pub longest_config : ℕ
longest_config = 16777216

-- The fields of a configuration file, or its first fault.
abbrev pub text_fault : Result Fields TextError → Result Fields Fault
text_fault (Ok fields) = Ok fields
text_fault (Err e) = Err (fault.Text e)

unfoldable pub fields_of : List ℕ → Result Fields Fault
fields_of bytes =
    if nat_lt longest_config (length bytes) then Err (fault.ConfigTooLarge (length bytes))
    else text_fault (fields_of_text bytes)

abbrev pub refused_in : {A : Type 0} → List ℕ → Result A Fault → Result A Refusal
refused_in file (Ok x) = Ok x
refused_in file (Err f) = Err record { file = file; fault = f }

abbrev pub text_in : List ℕ → Files → Reads Refusal Fields
text_in name files = file_in name (λ bytes. refused_in name (fields_of bytes)) files

-- What a DAG file says: its components, and the paths of the fields that it doesn't have.
pub record DagSays : Type 0 where
  pub components : List DagComponent
  pub unknown : List (List ℕ)

abbrev pub dag_of : Fields → Result DagSays DagError
dag_of file = unless (dag_refusal file)
    record { components = components_of file; unknown = unknown_in_dag file }

abbrev pub dag_in : List ℕ → Files → Reads Refusal DagSays
dag_in name files = text_in name files >>= λ file. in_file name fault.Dag (dag_of file)

-- What the file of a component of a class says.
abbrev pub config_by : ℕ → Option Class → Fields → Result Config DagError
config_by component None file = Err (dag_error.UnknownClass component)
config_by component (Some c) file = unless (class_refusal component c file) (config_of c file)

abbrev pub said_in : ℕ → DagComponent → Files → Reads Refusal Config
said_in component c files = text_in c.config_file_path files >>= λ file.
    in_file c.config_file_path fault.Dag (config_by component (class_named c.class_name) file)

-- The same, and behind it the answers of the component, where its file names a record of them.
abbrev pub config_in : ℕ → DagComponent → Files → Reads Refusal Config
config_in component c files =
    said_in component c files >>= λ config. answered_in component config files

-- The files of components that are numbered from one on.
abbrev pub configs_from : ℕ → List DagComponent → Files → Reads Refusal (List Config)
configs_from component [] files = Accepts []
configs_from component (c ∷ rest) files = do
  config ← config_in component c files
  configs ← configs_from (component + 1) rest files
  Accepts (config ∷ configs)

abbrev pub configs_in : List DagComponent → Files → Reads Refusal (List Config)
configs_in components files = configs_from 0 components files

-- The scheduler of a file, or the default one where no file is given.
abbrev pub sched_in : Option (List ℕ) → Files → Reads Refusal Sched
sched_in None files = Accepts default_sched
sched_in (Some name) files = text_in name files >>= λ file.
    in_file name fault.Sched (unless (sched_refusal file) (sched_of file))

-- All of it; answers have the values that the component files say.
pub record Configured : Type 0 where
  pub dag : DagSays
  pub configs : List Config
  pub sched : Sched

abbrev pub configuration_in : (dag : List ℕ) (sched : Option (List ℕ)) → Files
    → Reads Refusal Configured
configuration_in dag_name sched_name files = do
  dag ← dag_in dag_name files
  configs ← configs_in dag.components files
  sched ← sched_in sched_name files
  Accepts record { dag = dag; configs = valued_configs configs; sched = sched }

-- The component files.
abbrev pub files_of : List DagComponent → List (List ℕ)
files_of components = map (λ c. c.config_file_path) components

-- The file of a component that was read names this one as the record of its answers.
pub record NamesAnswers (number : ℕ) (c : DagComponent) (files : Option Files) (file : List ℕ)
    : Type 0 where
  pub says : Config
  pub read : IfSome files (λ m. said_in number c m ≡ Accepts says)
  pub named : answers_file says ≡ Some file

-- The files that are asked for of the component of a number: its own, and that of its answers.
abbrev pub IsAskedFor : ℕ → DagComponent → Option Files → List ℕ → Type 0
IsAskedFor number c files file = (file ≡ c.config_file_path) ⊎ NamesAnswers number c files file

-- And of all components.
pub record IsAskedOf (components : List DagComponent) (files : Option Files) (file : List ℕ)
    : Type 0 where
  pub number : ℕ
  pub component : DagComponent
  pub there : slice_get components number ≡ Some component
  pub asked : IsAskedFor number component files file

-- A component of the DAG that was read names this file.
pub record IsNamed (dag : List ℕ) (files : Option Files) (file : List ℕ) : Type 0 where
  pub says : DagSays
  pub read : IfSome files (λ m. dag_in dag m ≡ Accepts says)
  pub named : IsAskedOf says.components files file

-- The files that are asked for: the DAG file, the scheduler file where one is given, and those that
-- the DAG and the component files name.
abbrev pub IsAsked : (dag : List ℕ) (sched : Option (List ℕ)) → Option Files → List ℕ → Type 0
IsAsked dag sched files file = (file ≡ dag) ⊎ ((sched ≡ Some file) ⊎ IsNamed dag files file)
