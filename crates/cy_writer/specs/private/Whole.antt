-- A writer that is not broken, as it keeps itself.
use Rattle.std.specs.Prelude.{◌≤◌, length, Result, IsErrOf}
use Rattle.cy_store.specs.Store.{StoreView}
use Rattle.cy_writer.specs.Stands.{IsHeld}
use Rattle.cy_writer.specs.declared.error.WriteError.{WriteError}
use Rattle.cy_writer.specs.declared.error.WriteError.TheVariants as write_error
use Rattle.cy_writer.specs.declared.writing.Writing.{Writing}

-- After a call it has the channels that it had, it may go on unless the call failed, and it isn't
-- answered that it is broken.
pub record StaysWhole {T : Type 0} (o p : Writing) (new : StoreView)
    (result : Result T WriteError) : Type 0 where
  pub held : (IsErrOf result write_error.Failed → ⊥) → IsHeld p new.files
  pub channels : length o.channels.items ≤ length p.channels.items
  pub unbroken : IsErrOf result write_error.Broken → ⊥
