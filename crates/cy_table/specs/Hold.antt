-- What a croutine in hand shows.
use Rattle.std.specs.Prelude.{ℕ, List, count_by, is_some, Option, Some, None}
use Rattle.cy_msg.specs.declared.token.Tuple.{Tuple}
use Rattle.cy_comp.specs.declared.call.Call.{Call}
use Rattle.cy_comp.specs.Routine.{RoutineView, taken}
use Rattle.cy_table.specs.declared.hold.Found.{Found}

-- How many of some calls have an output.
abbrev pub outputs_in : List Call → ℕ
outputs_in calls = count_by (λ x. is_some x.out) calls

-- The routine of a croutine in hand, with the call on a tuple that a fetch found, though the
-- component was not stepped on it yet.
abbrev pub with_found : RoutineView → Option Found → RoutineView
with_found x None = x
with_found x (Some f) = taken x f.tuple f.position f.tail

-- What a fetch found, as it is kept until the component is stepped.
abbrev pub as_found : Tuple × ℕ × ℕ → Found
as_found f = record { tuple = f.0; position = f.1; tail = f.2 }
