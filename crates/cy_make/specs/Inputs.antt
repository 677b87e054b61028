-- The writes that make the files, in their order, and where they stop.
use Rattle.std.specs.Prelude.{ℕ, ◌≡◌, ◌<◌, ⊤, List, [], ◌∷◌, ◌++◌, codes, Result, OnOk}
use Rattle.std.specs.Prelude.{IfErr, IsErrAnd}
use Rattle.std.specs.List.{flat_map}
use Rattle.std.specs.Option.{option_map}
use Rattle.std.specs.FinMap.{insert}
use Rattle.cy_store.specs.Files.{Files}
use Rattle.cy_store.specs.Write.{Write, name_of, after_writes}
use Rattle.cy_store.specs.Store.{StoreView, HasWriteCauses}
use Rattle.cy_section.specs.declared.types.BodyMessage.{BodyMessage}
use Rattle.cy_section.specs.RecordText.{IsRecordText, record_bytes}
use Rattle.cy_writer.specs.Writes.{StopsAt, StopsBefore}
use Rattle.cy_writer.specs.RecordWrites.{file_writes, record_puts, chunks_given}
use Rattle.cy_make.specs.declared.config.Config.{Config}
use Rattle.cy_make.specs.declared.config.Config.TheVariants.{Adder, Band, Last8, Late, Dag}
use Rattle.cy_make.specs.declared.error.MakeError.{MakeError}
use Rattle.cy_make.specs.declared.error.MakeError.TheVariants as make_error
use Rattle.cy_make.specs.Messages.{messages_to, channels_of}
use Rattle.cy_make.specs.Texts.{suffix_of, text_of}

-- The configuration files, in the order in which they are written: each in one piece.
abbrev pub all_configs : List Config
all_configs = Adder ∷ Band ∷ Last8 ∷ Late ∷ Dag ∷ []

abbrev pub config_writes : List ℕ → Config → List Write
config_writes prefix c = file_writes (prefix ++ suffix_of c) ((0, text_of prefix c) ∷ [])

-- The record of n messages, in its pieces.
abbrev pub record_name : List ℕ → List ℕ
record_name prefix = prefix ++ codes ".record"

abbrev pub made_chunks : ℕ → List ℕ → List (List BodyMessage)
made_chunks n prefix = chunks_given (record_name prefix) (channels_of n) (messages_to n)

abbrev pub made_record : ℕ → List ℕ → List ℕ
made_record n prefix = record_bytes (channels_of n) (made_chunks n prefix)

abbrev pub made_record_writes : ℕ → List ℕ → List Write
made_record_writes n prefix =
    file_writes (record_name prefix) (record_puts (channels_of n) (made_chunks n prefix))

-- All of them.
abbrev pub input_writes : ℕ → List ℕ → List Write
input_writes n prefix = flat_map (config_writes prefix) all_configs ++ made_record_writes n prefix

-- The files, once these are written: each has its text under its name.
abbrev pub with_config : List ℕ → Files → Config → Files
with_config prefix m c = insert m (prefix ++ suffix_of c) (text_of prefix c)

abbrev pub with_configs : List ℕ → List Config → Files → Files
with_configs prefix [] m = m
with_configs prefix (c ∷ rest) m = with_configs prefix rest (with_config prefix m c)

abbrev pub with_inputs : ℕ → List ℕ → Files → Files
with_inputs n prefix m =
    insert (with_configs prefix all_configs m) (record_name prefix) (made_record n prefix)

-- A write of the file of a name failed, and those before it were done.
pub record FailsIn (name : List ℕ) (writes : List Write) (old new : StoreView) : Type 0 where
  pub failed : Write
  pub named : name_of failed ≡ name
  pub stops : StopsAt writes failed old.files new.files

-- Where the writes stopped: at a file, where a call of the store failed, or between two for want of
-- memory.
abbrev pub Stops : MakeError → List ℕ → List Write → StoreView → StoreView → Type 0
Stops (make_error.Config c) prefix writes old new = FailsIn (prefix ++ suffix_of c) writes old new
Stops make_error.Record prefix writes old new = FailsIn (record_name prefix) writes old new
Stops make_error.Memory prefix writes old new = StopsBefore writes old.files new.files

-- It stopped at a file.
abbrev pub IsAtFile : MakeError → Type 0
IsAtFile (make_error.Config c) = ⊤
IsAtFile make_error.Record = ⊤
IsAtFile make_error.Memory = ⊥

-- What a call does that makes these writes: all of them; or it answers where they stopped, at a
-- file only where the store's count rose in this call.
pub record MakesFiles {T : Type 0} (prefix : List ℕ) (writes : List Write) (old new : StoreView)
    (result : Result T MakeError) : Type 0 where
  pub done : OnOk result (new.files ≡ option_map (after_writes writes) old.files)
  pub stopped : IfErr result (λ e. Stops e prefix writes old new)
  pub causes : HasWriteCauses (IsErrAnd result IsAtFile) old new

-- What holds of all that is written: the files have their texts afterwards, every other name is as
-- it was, and the record is the record text of its messages.
abbrev pub LeavesInputs : Type 0
LeavesInputs = (n : ℕ) (prefix : List ℕ) (files : Files)
    → after_writes (input_writes n prefix) files ≡ with_inputs n prefix files

abbrev pub WritesText : Type 0
WritesText = (n : ℕ) (prefix : List ℕ) → 0 < n
    → IsRecordText (channels_of n) (messages_to n) (made_record n prefix)
