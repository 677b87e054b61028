-- What `split` makes of a record.
use Rattle.std.specs.Prelude.{◌≡◌, length, codes}
use Rattle.cy_store.specs.Files.{Files}
use Rattle.cy_store.specs.Reads.{Reads, ◌>>=◌}
use Rattle.cy_reader.specs.Record.{Contents}
use Rattle.cy_setup.specs.declared.error.Refusal.{Refusal}
use Rattle.cy_setup.specs.Listing.{record_in}
use Rattle.cy_tools.specs.Kept.{passing}
use Rattle.cy_tools.specs.Tools.{met_in}
use Rattle.cy_args.specs.SplitWords.{SplitWords}
use Rattle.cy_commands.specs.Commands.RecoverWork.{WritesKept, kept_apart}
use Rattle.cy_commands.specs.Lines.{messages_line}
use Rattle.cy_commands.specs.Work.{Work}

-- Another file is named for what is written, and then the record is read.
abbrev pub parted_in : SplitWords → Files → Reads Refusal Contents
parted_in w files = kept_apart w.input w.output >>= λ _. record_in w.input files

-- The record of the messages that the filter lets through is written, and the line tells how many
-- they are, and of how many.
pub record IsSplitWork (w : SplitWords) (read : Contents) (work : Work) : Type 0 where
  pub written : WritesKept w.output (met_in read) (passing w.filter (met_in read)) work
  pub text : work.text ≡ messages_line (length (passing w.filter (met_in read))) (codes " of ")
      (length read.messages)
