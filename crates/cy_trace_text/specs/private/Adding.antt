-- Parts that are added to those of a trace.
use Rattle.std.specs.Prelude.{ℕ, ◌≡◌, List, ◌++◌, All, Result, IfOk}
use Rattle.std.specs.List.{AllZip}
use Rattle.std.specs.declared.alloc.AllocError.{AllocError}
use Rattle.cy_comp.specs.declared.plan.Plan.{Plan}
use Rattle.wake_core.specs.Run.{Run}
use Rattle.cy_trace_text.specs.declared.parts.Part.{Part}
use Rattle.cy_trace_text.specs.Parts.{part_text, parts_text, IsPartOf}

-- The new parts have this text behind that of the old ones, and are within the run as these are.
pub record Adds (names : List (List ℕ)) (plans : List Plan) (shadowed : ℕ) (w : Run)
    (old new : List Part) (more : List ℕ) : Type 0 where
  pub text : parts_text names plans shadowed w new ≡ parts_text names plans shadowed w old ++ more
  pub fit : All (IsPartOf plans w) old → All (IsPartOf plans w) new

-- The texts of parts, as far as there was memory for them.
abbrev pub AreTexts : List (List ℕ) → List Plan → ℕ → Run → List Part
    → List (Result (List ℕ) AllocError) → Type 0
AreTexts names plans shadowed w parts texts =
    AllZip (λ p t. IfOk t (λ text. text ≡ part_text names plans shadowed w p)) parts texts
