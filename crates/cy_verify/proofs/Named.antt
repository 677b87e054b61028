-- Components that are told of one by one.
use Rattle.std.proofs.Common.{ℕ, ◌≡◌, ◌<◌, List, Some, slice_get}
use Rattle.cy_comp.specs.declared.plan.Plan.{Plan}
use Rattle.cy_trace.specs.declared.trace.TraceComponent.{TraceComponent}
use Rattle.cy_verify.specs.private.Passes.{IsNamed}

-- The first so many are told of.
abbrev pub AreNamedTo : List Plan → List TraceComponent → ℕ → Type 0
AreNamedTo plans told k = (c : ℕ) (p : Plan) (t : TraceComponent) → c < k → slice_get plans c ≡ Some p → slice_get told c ≡ Some t → IsNamed p t
