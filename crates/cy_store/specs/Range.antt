-- What reading a part of a file answers.
use Rattle.std.specs.Prelude.{ℕ, ◌≡◌, ◌≤◌, List, length, take, drop, Vec, Result, IfOk, IsErrOf}
use Rattle.cy_store.specs.Files.{Holds}
use Rattle.cy_store.specs.Store.{StoreView, HasCauses}
use Rattle.cy_store.specs.declared.error.StoreError.{StoreError}
use Rattle.cy_store.specs.declared.error.StoreError.TheVariants as store_error

-- What `read_range` answers: so many bytes of the file from a place on, fewer where it ends before.
-- It changes no file, and fails only where the store's count rose.
pub record RangeAnswer {Z : Type 0} (old new : StoreView) (name : List ℕ) (at size : ℕ)
    (result : Result (Vec ℕ Z) StoreError) : Type 0 where
  pub read : IfOk result (λ v. Holds old.files name (λ file. v.items ≡ take size (drop at file)))
  pub within : IfOk result (λ v. length v.items ≤ size)
  pub same : new.files ≡ old.files
  pub causes : HasCauses (IsErrOf result store_error.Failed) old new name
