-- The answers of a component, where its file names a record that has them.
use Rattle.std.specs.Prelude.{ℕ, List, [], ◌∷◌, Option, Some, None, Result}
use Rattle.cy_store.specs.Files.{Files}
use Rattle.cy_store.specs.Reads.{Reads, Accepts, ◌>>=◌}
use Rattle.cy_section.specs.declared.types.Channel.{Channel}
use Rattle.cy_reader.specs.Named.{as_read, known_as}
use Rattle.cy_reader.specs.Record.{Contents}
use Rattle.cy_comp.specs.declared.kind.Kind.{Kind}
use Rattle.cy_comp.specs.declared.kind.Kind.TheVariants.{External}
use Rattle.cy_answers.specs.Answers.{answers_of, answers_refusal, messages_on}
use Rattle.cy_answers.specs.declared.error.AnswersError.{AnswersError}
use Rattle.cy_dag.specs.declared.config.Config.{Config}
use Rattle.cy_setup.specs.declared.error.Fault.TheVariants as fault
use Rattle.cy_setup.specs.declared.error.Refusal.{Refusal}
use Rattle.cy_setup.specs.Faults.{unless, in_file}
use Rattle.cy_setup.specs.RecordFile.{record_in}

-- The name of the record that has the answers of a component: of a class whose answers come from a
-- record, and where its file gives a name.
abbrev pub answers_name : Kind → List ℕ → Option (List ℕ)
answers_name (External answers) [] = None
answers_name (External answers) (byte ∷ rest) = Some (byte ∷ rest)
answers_name _ name = None

abbrev pub answers_file : Config → Option (List ℕ)
answers_file config = answers_name config.kind config.options.answers

-- A type, or another one in place of an empty one.
abbrev pub type_or : List ℕ → List ℕ → List ℕ
type_or [] other = other
type_or (byte ∷ rest) other = byte ∷ rest

-- The channel of a name, as a record has it.
abbrev pub channel_in : Contents → List ℕ → Channel
channel_in whole name = as_read name (known_as name whole.channels)

-- What a component file says with these answers: the messages that the component puts out have the
-- type and the description that the record has for its channel, or the type of the component file,
-- where the record has none.
abbrev pub with_answers : ℕ → Contents → Config → Config
with_answers component whole config =
    let channel = channel_in whole config.out in
    record config {
      kind = External (answers_of whole config.out component);
      options = record config.options {
        out_type = type_or channel.message_type config.options.out_type;
        description = channel.proto_desc;
      };
    }

-- Or the record is refused.
abbrev pub judged_answers : ℕ → Contents → Config → Result Config AnswersError
judged_answers component whole config =
    unless (answers_refusal (messages_on config.out whole)) (with_answers component whole config)

abbrev pub answered_by : Option (List ℕ) → ℕ → Config → Files → Reads Refusal Config
answered_by None component config files = Accepts config
answered_by (Some name) component config files = record_in name files >>= λ whole.
    in_file name fault.Answers (judged_answers component whole config)

-- What the file of the component of a number says, once its answers are read.
abbrev pub answered_in : ℕ → Config → Files → Reads Refusal Config
answered_in component config files = answered_by (answers_file config) component config files
