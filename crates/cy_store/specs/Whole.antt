-- What reading a file whole answers.
use Rattle.std.specs.Prelude.{ℕ, ◌≡◌, ◌≤◌, ◌<◌, List, length, Result, IfOk, IsErrOf}
use Rattle.cy_store.specs.Files.{Holds}
use Rattle.cy_store.specs.Store.{StoreView, HasCauses}
use Rattle.cy_store.specs.declared.error.StoreError.{StoreError}
use Rattle.cy_store.specs.declared.error.StoreError.TheVariants as store_error
use Rattle.cy_store.specs.declared.whole.ReadFile.{ReadFile}
use Rattle.cy_store.specs.declared.whole.ReadFile.TheVariants.{Whole, Longer}

-- A file was read as this: all its bytes, or how many they are.
abbrev pub IsReadAs : List ℕ → ReadFile → Type 0
IsReadAs file (Whole bytes) = file ≡ bytes.items
IsReadAs file (Longer size) = size ≡ length file

-- All its bytes were read where they are not more than asked for, and else none.
abbrev pub IsWithin : ℕ → ReadFile → Type 0
IsWithin longest (Whole bytes) = length bytes.items ≤ longest
IsWithin longest (Longer size) = longest < size

-- What `read_file` answers. It changes no file, and fails only where the store's count rose.
pub record ReadFileAnswer (old new : StoreView) (name : List ℕ) (longest : ℕ)
    (result : Result ReadFile StoreError) : Type 0 where
  pub read : IfOk result (λ r. Holds old.files name (λ file. IsReadAs file r))
  pub within : IfOk result (IsWithin longest)
  pub same : new.files ≡ old.files
  pub causes : HasCauses (IsErrOf result store_error.Failed) old new name
