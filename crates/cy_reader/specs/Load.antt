-- What reading a record by its name answers.
use Rattle.std.specs.Prelude.{◌≡◌, ◌⊎◌, ℕ, List, Result, Ok, Err, IfOk, IfErr, IsErrOf}
use Rattle.cy_store.specs.Files.{Holds}
use Rattle.cy_store.specs.Store.{StoreView, HasCauses}
use Rattle.cy_reader.specs.declared.error.LoadError.{LoadError}
use Rattle.cy_reader.specs.declared.error.LoadError.TheVariants.{Store, Memory}
use Rattle.cy_reader.specs.Record.{Contents, record_of}
use Rattle.cy_reader.specs.Said.{StandOnChannels}

-- An answer in place of what a file holds: that there is no memory or the store failed, or the
-- file's first fault or passed limit.
abbrev pub IsRefusal : StoreView → List ℕ → LoadError → Type 0
IsRefusal old name e = (e ≡ Memory)
    ⊎ ((e ≡ Store) ⊎ Holds old.files name (λ file. record_of name file ≡ Err e))

-- What `load` answers: the contents of the file, or the first fault or passed limit. Whatever the
-- file holds, the channels have different names, and each message stands on one. It changes no
-- file, and answers `Store` only where the store's count rose.
pub record LoadAnswer (old new : StoreView) (name : List ℕ) (result : Result Contents LoadError) :
    Type 0 where
  pub contents : IfOk result (λ r. Holds old.files name (λ file. record_of name file ≡ Ok r))
  pub stand : IfOk result (λ r. StandOnChannels r.channels r.messages)
  pub refused : IfErr result (IsRefusal old name)
  pub same : new.files ≡ old.files
  pub causes : HasCauses (IsErrOf result Store) old new name

-- The same of the bytes of a file that is not too long.
pub record FileAnswer (old new : StoreView) (name : List ℕ) (result : Result (List ℕ) LoadError) :
    Type 0 where
  pub whole : IfOk result (λ bytes. Holds old.files name (λ file. file ≡ bytes))
  pub refused : IfErr result (IsRefusal old name)
  pub same : new.files ≡ old.files
  pub causes : HasCauses (IsErrOf result Store) old new name
