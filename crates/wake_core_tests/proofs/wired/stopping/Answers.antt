use Rattle.std.proofs.Common.{◌∙◌, sym, ap, subst, ◌∷◌, [], Some, arith}
use Rattle.wake_core.specs.Fields.{IsWithin}
use Rattle.wake_core.specs.Run.{routes_of}
use Rattle.wake_core_tests.specs.Runs.{passing, stop_after_one}
use Rattle.wake_core_tests.proofs.Opening.{only_memory, few_passing, route_is, stop_within}
use Rattle.wake_core_tests.proofs.wired.stopping.Goals as goal

pub new-requires-clause-within : goal.new-requires-clause-within
new-requires-clause-within c =
    let plan = c.in_ok-plan.ensures in
    let route = route_is c.in_ok-plan.plan (passing 1) plan.kind plan.wired.0 plan.wired.1 plan.wired.2 plan.wired.3 in
    subst (λ rs. IsWithin rs (2 ∷ 0 ∷ []) (Some stop_after_one)) (sym (ap routes_of c.in_ok-wiring.ensures.wired.1 ∙ route)) stop_within

pub returns-clause-memory : goal.returns-clause-memory
returns-clause-memory c =
    let plan = c.in_ok-plan.ensures in
    let route = route_is c.in_ok-plan.plan (passing 1) plan.kind plan.wired.0 plan.wired.1 plan.wired.2 plan.wired.3 in
    only_memory (routes_of c.in_ok-wiring.wiring.plans) (passing 1 ∷ []) (2 ∷ 0 ∷ []) c.new.result (ap routes_of c.in_ok-wiring.ensures.wired.1 ∙ route) (few_passing 1 2 (omega arith)) c.new.ensures.too_many
