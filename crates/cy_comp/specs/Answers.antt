-- What calls put out whose answers come from a file.
use Rattle.std.specs.Prelude.{ℕ, ◌<◌, ◌==◌, if◌then◌else◌, List, [], ◌∷◌, length, slice_get}
use Rattle.std.specs.Prelude.{Option, Some, None, unwrap_or, option_map}
use Rattle.cy_comp.specs.declared.answers.Answer.{Answer}

-- The answer of the call of a number, where there is one.
abbrev pub answered : List Answer → ℕ → Option Answer
answered [] call = None
answered (a ∷ rest) call = if a.call == call then Some a else answered rest call

-- The number of the call of the answer at a place.
abbrev pub call_at : List Answer → ℕ → ℕ
call_at answers place = unwrap_or (option_map (λ (a : Answer). a.call) (slice_get answers place)) 0

-- Each answer is of a later call than those before it.
abbrev pub CallsRise : List Answer → Type 0
CallsRise answers = (i j : ℕ) → i < j → j < length answers → call_at answers i < call_at answers j
