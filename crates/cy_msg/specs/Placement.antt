-- Where components run.
use Rattle.std.specs.Prelude.{ℕ, List, sum_by}
use Rattle.std.specs.List.{flat_map}
use Rattle.cy_msg.specs.declared.placement.ContextPlan.{ContextPlan}
pub use Rattle.cy_msg.specs.Once.{IsOnce}

-- The numbers of the components, in the order in which the contexts are scanned.
abbrev pub scan_of : List ContextPlan → List ℕ
scan_of contexts = flat_map (λ c. c.order) contexts

-- How many processors the contexts ask for, together.
abbrev pub processors_of : List ContextPlan → ℕ
processors_of contexts = sum_by (λ c. c.processors) contexts
