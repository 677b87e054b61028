-- What holds of a routine's fields.
use Rattle.std.specs.Prelude.{ℕ, ◌≡◌, List}
use Rattle.cy_comp.specs.declared.call.Call.{Call}
use Rattle.cy_comp.specs.Step.{opening_of, kept_after}
use Rattle.cy_comp.specs.Calls.{tuples_of, cursor_after}
use Rattle.cy_comp.specs.Body.{BodyView}

-- The component keeps what its calls made of its opening, and the cursor is behind the last one.
pub record IsRoutine (body : BodyView) (cursor : ℕ) (calls : List Call) : Type 0 where
  pub kept : body.kept ≡ kept_after body.kind (opening_of body.kind) (tuples_of calls)
  pub behind : cursor ≡ cursor_after calls
