-- The record of a name.
use Rattle.std.specs.Prelude.{ℕ, List, Result, Ok, Err}
use Rattle.cy_store.specs.Files.{Files}
use Rattle.cy_store.specs.Reads.{Reads, file_in}
use Rattle.cy_reader.specs.Record.{Contents, record_of}
use Rattle.cy_reader.specs.declared.error.LoadError.{LoadError}
use Rattle.cy_setup.specs.declared.error.Fault.TheVariants as fault
use Rattle.cy_setup.specs.declared.error.Refusal.{Refusal}

-- What the record of a name holds.
abbrev pub contents_or : List ℕ → Result Contents LoadError → Result Contents Refusal
contents_or file (Ok contents) = Ok contents
contents_or file (Err e) = Err record { file = file; fault = fault.Record e }

abbrev pub record_in : List ℕ → Files → Reads Refusal Contents
record_in name files = file_in name (λ bytes. contents_or name (record_of name bytes)) files
