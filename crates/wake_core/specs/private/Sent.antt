-- How many outputs of a component were sent, as its routine tells.
use Rattle.std.specs.Prelude.{ℕ, ◌-◌, ◌≡◌, ◌≤◌, ◌<◌, ◌^◌, List, length, filter, is_some, slice_get}
use Rattle.std.specs.Prelude.{Some, if◌then◌else◌}
use Rattle.cy_comp.specs.declared.call.Call.{Call}
use Rattle.cy_comp.specs.Routine.{RoutineView}

-- The outputs of calls, and those of a routine that wait to be sent: one or none.
abbrev pub outputs_of : List Call → ℕ
outputs_of calls = length (filter (λ x. is_some x.out) calls)

abbrev pub waiting_of : RoutineView → ℕ
waiting_of r = if is_some r.pending then 1 else 0

abbrev pub sent_count : RoutineView → ℕ
sent_count r = outputs_of r.calls - waiting_of r

-- An output that waits is one of those of the calls, and their number fits.
pub record IsCounted (r : RoutineView) : Type 0 where
  pub waits : waiting_of r ≤ outputs_of r.calls
  pub fits : outputs_of r.calls < 2 ^ 32

pub record AreCounted (routines : List RoutineView) : Type 0 where
  pub each : (c : ℕ) (r : RoutineView) → slice_get routines c ≡ Some r → IsCounted r
