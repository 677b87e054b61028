-- Bytes of a file that were read ahead.
use Rattle.std.specs.Prelude.{◌≡◌, ℕ, ◌-◌, nat_lt, min, if◌then◌else◌, List, [], length, take, drop}
use Rattle.std.specs.Prelude.{Result, OnOk, IsErrOf}
use Rattle.cy_store.specs.Files.{Holds}
use Rattle.cy_store.specs.Store.{StoreView, HasCauses}
use Rattle.cy_store.specs.declared.error.StoreError.{StoreError}
use Rattle.cy_store.specs.declared.error.StoreError.TheVariants as store_error
use Rattle.cy_cut.specs.declared.window.Window.{Window}

-- These are the bytes of a file from a place on, or the first of them.
abbrev pub IsFrontAt : ℕ → List ℕ → List ℕ → Type 0
IsFrontAt at bytes file = bytes ≡ take (length bytes) (drop at file)

-- The bytes of a window stand at its place in a file.
abbrev pub IsRead : List ℕ → Window → Type 0
IsRead file w = IsFrontAt w.at w.bytes.items file

-- The bytes of a window from a place on.
abbrev pub rest : Window → ℕ → List ℕ
rest w at =
    if nat_lt at w.at then []
    else drop (min (length w.bytes.items) (at - w.at)) w.bytes.items

-- A window has so many of a file's bytes from a place on, or as many as there are, once it was made
-- to reach so far.
pub record ReachAnswer (old new : StoreView) (name : List ℕ) (at need : ℕ) (w : Window)
    (result : Result (Unit {0}) StoreError) : Type 0 where
  pub reached : OnOk result (Holds old.files name (λ file. take need (rest w at)
      ≡ take need (drop at file)))
  pub read : OnOk result (Holds old.files name (λ file. IsRead file w))
  pub same : new.files ≡ old.files
  pub causes : HasCauses (IsErrOf result store_error.Failed) old new name
