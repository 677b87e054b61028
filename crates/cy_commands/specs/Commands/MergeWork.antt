-- What `merge` makes of records.
use Rattle.std.specs.Prelude.{ℕ, ◌≡◌, ⊤, List, [], ◌∷◌, length, codes}
use Rattle.cy_store.specs.Files.{Files}
use Rattle.cy_store.specs.Reads.{Reads, ◌>>=◌}
use Rattle.cy_salvage.specs.Joined.{Gathered}
use Rattle.cy_reader.specs.United.{IsInTime}
use Rattle.cy_reader.specs.Record.{Message, Met}
use Rattle.cy_setup.specs.Apart.{apart_from, standard_output}
use Rattle.cy_setup.specs.Merging.{merged_in}
use Rattle.cy_setup.specs.declared.error.Refusal.{Refusal}
use Rattle.cy_args.specs.MergeWords.{MergeWords}
use Rattle.cy_commands.specs.Commands.RecoverWork.{WritesKept}
use Rattle.cy_commands.specs.Lines.{messages_line}
use Rattle.cy_commands.specs.Work.{Work}

-- What is written is not standard output, and none of the records that are read.
abbrev pub merged_apart : (inputs : List (List ℕ)) → (output : List ℕ) → Reads Refusal ⊤
merged_apart inputs output =
    apart_from output (standard_output ∷ []) >>= λ _. apart_from output inputs

-- Then the records are read, in the order of the list, and joined to one.
abbrev pub united_in : MergeWords → Files → Reads Refusal Gathered
united_in w files = merged_apart w.inputs w.output >>= λ _. merged_in w.inputs files

-- The united channels, with these messages.
abbrev pub met_sorted : Gathered → List Message → Met
met_sorted read sorted = record { channels = read.met.channels; messages = sorted }

-- The record of all their messages in the order of time is written, and the line tells how many
-- they are, and of how many records.
pub record IsMergeWork (w : MergeWords) (read : Gathered) (work : Work) : Type 0 where
  pub sorted : List Message
  pub in_time : IsInTime read.met.messages sorted
  pub written : WritesKept w.output (met_sorted read sorted) sorted work
  pub text : work.text ≡ messages_line (length sorted) (codes ", records ") (length w.inputs)
