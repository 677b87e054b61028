-- What `info` tells of a record.
use Rattle.std.specs.Prelude.{◌≡◌, []}
use Rattle.cy_store.specs.Files.{Files}
use Rattle.cy_store.specs.Reads.{Reads}
use Rattle.cy_reader.specs.Record.{Contents}
use Rattle.cy_info.specs.Info.{info_text}
use Rattle.cy_setup.specs.declared.error.Refusal.{Refusal}
use Rattle.cy_setup.specs.Listing.{record_in}
use Rattle.cy_args.specs.Command.{InfoWords}
use Rattle.cy_commands.specs.Work.{Work}

-- The record is read.
abbrev pub told_of : InfoWords → Files → Reads Refusal Contents
told_of w files = record_in w.file files

-- It prints the text of the record and writes nothing.
pub record IsInfoWork (read : Contents) (work : Work) : Type 0 where
  pub silent : work.writes ≡ []
  pub text : work.text ≡ info_text read
