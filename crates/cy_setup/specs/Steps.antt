-- Single steps of reading configuration files.
use Rattle.std.specs.Prelude.{ℕ, ◌≡◌, ◌⊎◌, List, Option, Some, None, Result, Ok, Err, IfOk}
use Rattle.std.specs.Prelude.{IsErrOf}
use Rattle.cy_store.specs.Files.{Files}
use Rattle.cy_store.specs.Reads.{Reads, Accepts, ◌>>=◌}
use Rattle.cy_text.specs.Fields.{Fields}
use Rattle.cy_answers.specs.declared.error.AnswersError.{AnswersError}
use Rattle.cy_answers.specs.declared.error.AnswersError.TheVariants as answers_error
use Rattle.cy_dag.specs.declared.config.Config.{Config}
use Rattle.cy_dag.specs.declared.dag.Dag.{Dag}
use Rattle.cy_dag.specs.declared.error.DagError.{DagError}
use Rattle.cy_dag.specs.declared.error.DagError.TheVariants as dag_error
use Rattle.cy_reader.specs.declared.error.LoadError.{LoadError}
use Rattle.cy_reader.specs.declared.error.LoadError.TheVariants as load_error
use Rattle.cy_sched.specs.declared.error.SchedError.{SchedError}
use Rattle.cy_sched.specs.declared.error.SchedError.TheVariants as sched_error
use Rattle.cy_setup.specs.declared.error.Fault.{Fault}
use Rattle.cy_setup.specs.declared.error.Fault.TheVariants as fault
use Rattle.cy_setup.specs.declared.error.Refusal.{Refusal}
use Rattle.cy_setup.specs.declared.error.SetupError.{SetupError}
use Rattle.cy_setup.specs.declared.error.SetupError.TheVariants.{Refused, Store, Memory}
use Rattle.cy_setup.specs.declared.configuration.Configuration.{Configuration}
use Rattle.cy_setup.specs.Configuration.{Configured, DagSays, fields_of, refused_in, sched_in}

-- The fields of a text, or its fault; the store is not used.
pub record IsParsed (name text : List ℕ) (result : Result Fields SetupError) : Type 0 where
  pub accepted : IfOk result (λ fields. fields_of text ≡ Ok fields)
  pub refused : (refusal : Refusal) → IsErrOf result (Refused refusal)
      → refused_in name (fields_of text) ≡ Err refusal
  pub unread : (file : List ℕ) → IsErrOf result (Store file) → ⊥

-- What a DAG says.
abbrev pub dag_says : Dag → DagSays
dag_says dag = record { components = dag.components; unknown = dag.unknown }

-- What a configuration says.
abbrev pub configured : Configuration → Configured
configured c = record { dag = dag_says c.dag; configs = c.configs; sched = c.sched }

-- What configuration files come to behind the DAG and the component files: the scheduler is read.
abbrev pub scheduled_in : DagSays → List Config → Option (List ℕ) → Files
    → Reads Refusal Configured
scheduled_in dag configs sched_name files = do
  sched ← sched_in sched_name files
  Accepts record { dag = dag; configs = configs; sched = sched }

-- A fault of a file is answered, or want of memory, which is the only answer where there is none.
abbrev pub IsFault : List ℕ → Option Fault → SetupError → Type 0
IsFault file None e = e ≡ Memory
IsFault file (Some f) e = (e ≡ Memory) ⊎ (e ≡ Refused record { file = file; fault = f })

-- The fault that a refusal is, none where it is want of memory.
abbrev pub dag_fault : DagError → Option Fault
dag_fault dag_error.Memory = None
dag_fault e = Some (fault.Dag e)

abbrev pub sched_fault : SchedError → Option Fault
sched_fault sched_error.Memory = None
sched_fault e = Some (fault.Sched e)

abbrev pub answers_fault : AnswersError → Option Fault
answers_fault answers_error.Memory = None
answers_fault e = Some (fault.Answers e)

-- A fault of a record is answered, or want of memory: the store's failure at it, or its refusal.
abbrev pub IsRecordFault : List ℕ → LoadError → SetupError → Type 0
IsRecordFault file load_error.Memory e = e ≡ Memory
IsRecordFault file load_error.Store e = (e ≡ Memory) ⊎ (e ≡ Store file)
IsRecordFault file other e =
    (e ≡ Memory) ⊎ (e ≡ Refused record { file = file; fault = fault.Record other })
