-- A file that is written is to be another one than those that the same command reads or writes.
use Rattle.std.specs.Prelude.{ℕ, ◌≡◌, ⊤, List, [], ◌∷◌, ◌++◌, find, Option, Some, None, IfSome}
use Rattle.std.specs.Prelude.{Result, IsErrOf, codes}
use Rattle.std.specs.List.{Contains, flat_map}
use Rattle.std.specs.Str.{bytes_eq}
use Rattle.cy_store.specs.Files.{Files}
use Rattle.cy_store.specs.Reads.{Reads, Accepts, Refuses}
use Rattle.cy_msg.specs.Request.{Components, OfFiles, OfPass}
use Rattle.cy_dag.specs.declared.config.Config.{Config}
use Rattle.cy_setup.specs.AnswersFile.{answers_file}
use Rattle.cy_setup.specs.Configuration.{Configured, files_of}
use Rattle.cy_setup.specs.declared.error.Fault.TheVariants.{Also}
use Rattle.cy_setup.specs.declared.error.Refusal.{Refusal}
use Rattle.cy_setup.specs.declared.error.SetupError.{SetupError}
use Rattle.cy_setup.specs.declared.error.SetupError.TheVariants.{Refused, Store}
use Rattle.cy_setup.specs.Comes.{IsJudged}

-- The name of standard output among the files of the machine. A command prints its line there.
abbrev pub standard_output : List ℕ
standard_output = codes "/dev/stdout"

-- The refusal of a file to be written that is also one of another name.
abbrev pub also : (name other : List ℕ) → Refusal
also name other = record { file = name; fault = Also other }

abbrev pub unless_also : List ℕ → Option (List ℕ) → Reads Refusal ⊤
unless_also name None = Accepts tt
unless_also name (Some other) = Refuses (also name other)

-- By their names, none of these others is the file that is to be written; else the first of them
-- is told.
abbrev pub apart_from : (name : List ℕ) → (others : List (List ℕ)) → Reads Refusal ⊤
apart_from name others = unless_also name (find (bytes_eq name) others)

-- One of the others is the same file.
pub record IsOneOf (name : List ℕ) (others : List (List ℕ)) (refusal : Refusal) : Type 0 where
  pub other : List ℕ
  pub among : Contains others other
  pub is : refusal ≡ also name other

-- What is answered: a store that tells its files goes by the names alone. One of them may be said
-- to be the file by any other store.
pub record IsApart {X : Type 0} (files : Option Files) (name : List ℕ) (others : List (List ℕ))
    (result : Result X SetupError) : Type 0 where
  pub told : IfSome files (λ _. IsJudged (λ _. tt) (apart_from name others) result)
  pub one_file : (refusal : Refusal) → IsErrOf result (Refused refusal)
      → IsOneOf name others refusal
  pub unread : (file : List ℕ) → IsErrOf result (Store file) → ⊥

-- The files that are read for components over a record, by what their configuration says.
abbrev pub maybe : Option (List ℕ) → List (List ℕ)
maybe None = []
maybe (Some name) = name ∷ []

abbrev pub answers_read : List Config → List (List ℕ)
answers_read configs = flat_map (λ config. maybe (answers_file config)) configs

abbrev pub configs_read : Components → Configured → List (List ℕ)
configs_read (OfFiles dag sched) c =
    dag ∷ (maybe sched ++ files_of c.dag.components ++ answers_read c.configs)
configs_read (OfPass from to) c = []

abbrev pub files_read : Components → List ℕ → Configured → List (List ℕ)
files_read components input c = input ∷ configs_read components c
