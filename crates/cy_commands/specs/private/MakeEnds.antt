-- How `make` ends.
use Rattle.std.specs.Prelude.{ℕ, ◌≡◌, ◌++◌, List, ◌∷◌, Option, Some, None, Result, IsErrOf, codes}
use Rattle.std.specs.List.{Contains}
use Rattle.cy_store.specs.Files.{Files}
use Rattle.cy_store.specs.Reads.{Accepts}
use Rattle.cy_store.specs.Store.{StoreView}
use Rattle.cy_setup.specs.Apart.{IsOneOf, standard_output}
use Rattle.cy_setup.specs.declared.error.Refusal.{Refusal}
use Rattle.cy_setup.specs.declared.error.SetupError.{SetupError}
use Rattle.cy_setup.specs.declared.error.SetupError.TheVariants as setup_error
use Rattle.cy_setup.specs.declared.error.SetupError.TheVariants.{Refused}
use Rattle.cy_setup.specs.declared.setup.Replay.{Replay}
use Rattle.cy_msg.specs.Request.{OfFiles}
use Rattle.cy_setup.specs.Setup.{IsSetUp, replayed}
use Rattle.cy_make.specs.declared.config.Config.TheVariants.{Dag}
use Rattle.cy_make.specs.declared.error.MakeError.{MakeError}
use Rattle.cy_make.specs.declared.error.MakeError.TheVariants as make_error
use Rattle.cy_make.specs.Texts.{suffix_of}
use Rattle.cy_make.specs.Inputs.{record_name}
use Rattle.cy_commands.specs.declared.commands.make.Names.{Names}
use Rattle.cy_commands.specs.declared.failure.Failure.{Failure}
use Rattle.cy_commands.specs.declared.failure.Failure.TheVariants as failure
use Rattle.cy_commands.specs.declared.failure.File.{File}
use Rattle.cy_commands.specs.declared.failure.File.TheVariants as file
use Rattle.cy_commands.specs.declared.status.Status.{Status}
use Rattle.cy_commands.specs.declared.status.Status.TheVariants.{StoreFault, Memory}
use Rattle.cy_commands.specs.Lines.{store_line, memory_line}
use Rattle.cy_args.specs.MakeWords.{MakeWords}
use Rattle.cy_commands.specs.Commands.MakeWork.{play_made, made_files}
use Rattle.cy_args.specs.PlayWords.{PlayWords, play_of_all}
use Rattle.cy_commands.specs.Commands.PlayWork.{replayed_in}

-- A replay is that of the files that are made.
pub record IsMade (w : MakeWords) (x : Replay) : Type 0 where
  pub read : replayed_in (play_made w) (made_files w) ≡ Accepts (replayed x)
  pub set_up : IsSetUp (play_made w).request x

-- What a store shows that has these files, and of which no call failed.
abbrev pub told : Files → StoreView
told files = record { files = Some files; faults = 0; misses = 0 }

-- What is answered of the names of own files: a store that tells its files has no word against
-- them, any other may say that one of them is another one's file, or standard output.
pub record AreOwn {X : Type 0} (files : Option Files) (own : List (List ℕ))
    (result : Result X SetupError) : Type 0 where
  pub refused : (refusal : Refusal) → IsErrOf result (Refused refusal) → (files ≡ None)
      × ((name : List ℕ) × Contains own name × IsOneOf name (standard_output ∷ own) refusal)
  pub unread : (file : List ℕ) → IsErrOf result (setup_error.Store file) → ⊥

-- The status that is due where a file of the play was not made, and its line.
abbrev pub IsDueUnmade : MakeWords → MakeError → Status → List ℕ → Type 0
IsDueUnmade w (make_error.Config c) due line = (due ≡ StoreFault)
    × (line ≡ store_line (w.prefix ++ suffix_of c))
IsDueUnmade w make_error.Record due line = (due ≡ StoreFault)
    × (line ≡ store_line (record_name w.prefix))
IsDueUnmade w make_error.Memory due line = (due ≡ Memory) × (line ≡ memory_line)

-- The same of the files that are written for the play.
abbrev pub result_suffix : File → List ℕ
result_suffix file.Output = codes ".out"
result_suffix file.Trace = codes ".trace"

abbrev pub IsDueUnplayed : MakeWords → Failure → Status → List ℕ → Type 0
IsDueUnplayed w (failure.Store f) due line = (due ≡ StoreFault)
    × (line ≡ store_line (w.prefix ++ result_suffix f))
IsDueUnplayed w failure.Memory due line = (due ≡ Memory) × (line ≡ memory_line)

-- The names of the files of a prefix, and a play of all messages by such names.
abbrev pub names_of : List ℕ → Names
names_of prefix = record {
  dag = prefix ++ suffix_of Dag;
  input = record_name prefix;
  output = prefix ++ codes ".out";
  trace = prefix ++ codes ".trace";
}

abbrev pub play_named : Names → PlayWords
play_named n = play_of_all (OfFiles n.dag None) n.input n.output n.trace
