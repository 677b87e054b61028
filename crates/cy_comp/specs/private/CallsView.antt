-- What contracts see of a list of calls.
use Rattle.std.specs.Prelude.{ℕ, List}
use Rattle.cy_comp.specs.declared.call.Call.{Call}

-- The calls, and for how many more there is room.
pub record CallsView : Type 0 where
  pub made : List Call
  pub spare : ℕ
