-- What a tool answers that reads one file and writes another.
use Rattle.std.specs.Prelude.{ℕ, ◌≡◌, ◌≢◌, ◌⊎◌, List, Option, Result, Ok, Err}
use Rattle.std.specs.Option.{option_map}
use Rattle.cy_store.specs.Files.{Files, Holds}
use Rattle.cy_store.specs.Write.{Write, after_writes}
use Rattle.cy_store.specs.Store.{StoreView, SameCounts, StoreRose, WriteRose}
use Rattle.cy_reader.specs.declared.error.LoadError.{LoadError}
use Rattle.cy_reader.specs.declared.error.LoadError.TheVariants as load_error
use Rattle.cy_writer.specs.Writes.{StopsAt, StopsBefore}
use Rattle.cy_tools.specs.declared.error.File.TheVariants.{Input, Output}
use Rattle.cy_tools.specs.declared.error.ToolError.{ToolError}
use Rattle.cy_tools.specs.declared.error.ToolError.TheVariants.{Load, Store, Memory}
use Rattle.cy_tools.specs.Kept.{IsKeptText, kept_writes}
use Rattle.cy_tools.specs.Tools.{Tool}

module _ {A T : Type 0} (reads : List ℕ → Result A LoadError) (tool : Tool A T)
    (from to : List ℕ) where
  -- All writes of a tool, which make the file of a name, for what was read.
  abbrev pub writes_for : A → List Write
  writes_for x = kept_writes to (tool.met x) (tool.kept x)

  -- This was read of the file. What is written for it is the record text of what is kept.
  pub record IsRead (files : Option Files) (x : A) : Type 0 where
    pub held : Holds files from (λ file. reads file ≡ Ok x)
    pub text : IsKeptText to (tool.met x) (tool.kept x)

  -- It was read and written, and no call of the store failed.
  pub record IsDone (old new : StoreView) (told : T) : Type 0 where
    pub was : A
    pub read : IsRead old.files was
    pub written : new.files ≡ option_map (after_writes (writes_for was)) old.files
    pub counts : SameCounts old new
    pub tells : told ≡ tool.tells was

  -- The file is refused, and the store is as it was, its counts too.
  pub record RefusesFile (old new : StoreView) (e : LoadError) : Type 0 where
    pub refused : Holds old.files from (λ file. reads file ≡ Err e)
    pub same : new ≡ old
    pub own : (e ≢ load_error.Store) × (e ≢ load_error.Memory)

  -- The file was not read, and no file is changed.
  pub record FailsToRead (old new : StoreView) : Type 0 where
    pub rose : StoreRose old new from
    pub same : new.files ≡ old.files

  -- It was read, and a write failed; those before it were done.
  pub record FailsToWrite (old new : StoreView) : Type 0 where
    pub was : A
    pub read : IsRead old.files was
    pub failed : Write
    pub rose : WriteRose old new
    pub stops : StopsAt (writes_for was) failed old.files new.files

  -- It was read, and memory ran out before a write.
  pub record StopsForMemory (old new : StoreView) : Type 0 where
    pub was : A
    pub read : IsRead old.files was
    pub stops : StopsBefore (writes_for was) old.files new.files

  -- What a tool answers, with what stands in the store then.
  abbrev pub ToolAnswer : StoreView → StoreView → Result T ToolError → Type 0
  ToolAnswer old new (Ok told) = IsDone old new told
  ToolAnswer old new (Err (Load e)) = RefusesFile old new e
  ToolAnswer old new (Err (Store Input)) = FailsToRead old new
  ToolAnswer old new (Err (Store Output)) = FailsToWrite old new
  ToolAnswer old new (Err Memory) = (new.files ≡ old.files) ⊎ StopsForMemory old new
