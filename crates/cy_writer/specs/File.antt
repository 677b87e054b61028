-- A file that is written in one piece.
use Rattle.std.specs.Prelude.{ℕ, ◌≡◌, ◌∷◌, List, [], Result, OnOk, IsErrOf}
use Rattle.std.specs.Option.{option_map}
use Rattle.std.specs.FinMap.{insert}
use Rattle.cy_store.specs.Files.{Files}
use Rattle.cy_store.specs.Store.{StoreView, HasWriteCauses}
use Rattle.cy_writer.specs.Writes.{Makes}
use Rattle.cy_writer.specs.RecordWrites.{file_writes}
use Rattle.cy_writer.specs.declared.error.WriteError.{WriteError}
use Rattle.cy_writer.specs.declared.error.WriteError.TheVariants as write_error

-- After Ok the file of this name has these bytes, and all else is as it was. The file is made and
-- the bytes are put: after an error the writes before the one that failed, or that wanted memory,
-- are done. A file that was just made is there, so only a store that tells no files can miss it.
pub record WritesFile {T : Type 0} (name bytes : List ℕ) (old new : StoreView)
    (result : Result T WriteError) : Type 0 where
  pub has : OnOk result (new.files ≡ option_map (λ (m : Files). insert m name bytes) old.files)
  pub makes : Makes (file_writes name ((0, bytes) ∷ [])) old new result
  pub unbroken : IsErrOf result write_error.Broken → ⊥
  pub causes : HasWriteCauses (IsErrOf result write_error.Failed) old new
