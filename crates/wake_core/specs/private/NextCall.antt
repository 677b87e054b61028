-- What calling a component at once on what a fetch finds comes to.
use Rattle.std.specs.Prelude.{ℕ, ◌≡◌, Option, Some, None, option_map}
use Rattle.cy_msg.specs.declared.token.Tuple.{Tuple}
use Rattle.cy_fuse.specs.Visitor.{VisitorView, visited}
use Rattle.cy_comp.specs.declared.call.Outcome.{Outcome}
use Rattle.cy_comp.specs.Calls.{cursor_after}
use Rattle.cy_comp.specs.Routine.{RoutineView, MayTake, taken, answer_to}

-- What a fetch for a routine finds: a tuple, its position, and how many tuples there are.
abbrev pub next_found : RoutineView → VisitorView → Option (Tuple × ℕ × ℕ)
next_found r v = visited (cursor_after r.calls) v

-- The routine may take it.
abbrev pub MayCall : RoutineView → VisitorView → Type 0
MayCall r v = (x : Tuple × ℕ × ℕ) → next_found r v ≡ Some x → MayTake r x.0 x.1

-- What the component answers to what was found, if anything was.
abbrev pub answer_on : RoutineView → Option (Tuple × ℕ × ℕ) → Option Outcome
answer_on r found = option_map (λ x. answer_to r x.0) found

-- The routine, which has the call then; it stays where nothing was found.
abbrev pub called_on : RoutineView → Option (Tuple × ℕ × ℕ) → RoutineView
called_on r None = r
called_on r (Some x) = taken r x.0 x.1 x.2
