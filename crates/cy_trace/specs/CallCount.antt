-- How many calls a run has.
use Rattle.std.specs.Prelude.{ℕ, ◌+◌, List, [], ◌∷◌, length}
use Rattle.cy_comp.specs.declared.plan.Plan.{Plan}
use Rattle.wake_core.specs.Run.{Run}

-- The calls of components that are numbered from one on.
abbrev pub calls_from : Run → ℕ → List Plan → ℕ
calls_from run component [] = 0
calls_from run component (p ∷ rest) =
    length (run.calls component) + calls_from run (component + 1) rest
