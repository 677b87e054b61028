-- What `recover` makes of a file.
use Rattle.std.specs.Prelude.{ℕ, ◌≡◌, ⊤, List, [], ◌∷◌, length, codes, Result, Ok, Err}
use Rattle.std.specs.FinMap.{insert}
use Rattle.cy_store.specs.Files.{Files}
use Rattle.cy_store.specs.Reads.{Reads, file_in, ◌>>=◌}
use Rattle.cy_store.specs.Write.{after_writes}
use Rattle.cy_section.specs.RecordText.{record_bytes}
use Rattle.cy_reader.specs.Record.{Message, Met}
use Rattle.cy_salvage.specs.Salvage.{Salvage, salvage_of}
use Rattle.cy_reader.specs.declared.error.LoadError.{LoadError}
use Rattle.cy_setup.specs.Apart.{apart_from, standard_output}
use Rattle.cy_setup.specs.declared.error.Fault.TheVariants as fault
use Rattle.cy_setup.specs.declared.error.Refusal.{Refusal}
use Rattle.cy_tools.specs.Kept.{IsKeptText, channels_with, chunks_with, kept_writes}
use Rattle.cy_args.specs.RecoverWords.{RecoverWords}
use Rattle.cy_commands.specs.Lines.{messages_line}
use Rattle.cy_commands.specs.Work.{Work}

-- What stands in the file before its first fault.
abbrev pub salvaged_or : List ℕ → Result Salvage LoadError → Result Salvage Refusal
salvaged_or file (Ok salvage) = Ok salvage
salvaged_or file (Err e) = Err record { file = file; fault = fault.Record e }

abbrev pub salvaged_in : RecoverWords → Files → Reads Refusal Salvage
salvaged_in w files = file_in w.input (λ bytes. salvaged_or w.input (salvage_of bytes)) files

-- Another file is named for what is written, and then the file is read.
abbrev pub kept_apart : (input output : List ℕ) → Reads Refusal ⊤
kept_apart input output = apart_from output (standard_output ∷ input ∷ [])

abbrev pub recovered_in : RecoverWords → Files → Reads Refusal Salvage
recovered_in w files = kept_apart w.input w.output >>= λ _. salvaged_in w files

-- The record of some messages that were read is written under a name: it is the record text of
-- these messages, and stands there afterwards, while every other name is as before.
pub record WritesKept (name : List ℕ) (met : Met) (kept : List Message) (work : Work) : Type 0
  where
    pub record_text : IsKeptText name met kept
    pub writes : work.writes ≡ kept_writes name met kept
    pub leaves : (m : Files) → after_writes work.writes m
        ≡ insert m name (record_bytes (channels_with met kept) (chunks_with name met kept))

-- That of all messages which were salvaged is written, and the line tells how many they are and how
-- many bytes were dropped.
pub record IsRecoverWork (w : RecoverWords) (read : Salvage) (work : Work) : Type 0 where
  pub written : WritesKept w.output read.met read.met.messages work
  pub text : work.text
      ≡ messages_line (length read.met.messages) (codes ", dropped ") read.dropped
