-- What is kept of a component that is followed.
use Rattle.std.specs.Prelude.{ℕ, ◌≡◌, ◌≤◌, List, length}
use Rattle.cy_comp.specs.declared.call.Call.{Call}
use Rattle.cy_comp.specs.Body.{BodyView}
use Rattle.cy_comp.specs.Calls.{tuples_of, cursor_after}
use Rattle.cy_comp.specs.Step.{opening_of, kept_after}
use Rattle.wake_core.specs.declared.entries.TheConstants.{MOST_PLANNED}

-- The component keeps what its calls made of its opening, the cursor is behind the last one, and
-- they are counted, with room for as many as a world keeps.
pub record IsCaller (body : BodyView) (cursor count : ℕ) (calls : List Call) : Type 0 where
  pub kept : body.kept ≡ kept_after body.kind (opening_of body.kind) (tuples_of calls)
  pub behind : cursor ≡ cursor_after calls
  pub counted : count ≡ length calls
  pub few : count ≤ MOST_PLANNED
