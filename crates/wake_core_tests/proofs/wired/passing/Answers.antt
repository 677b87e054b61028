use Rattle.std.proofs.Common.{◌∙◌, ap, ◌∷◌, []}
use Rattle.wake_core.specs.Run.{routes_of}
use Rattle.wake_core_tests.specs.Runs.{passing}
use Rattle.wake_core_tests.proofs.Opening.{only_memory, few_passing, route_is}
use Rattle.wake_core_tests.proofs.wired.passing.Goals as goal

pub returns-clause-memory : goal.returns-clause-memory
returns-clause-memory c =
    let plan = c.in_ok-plan.ensures in
    let route = route_is c.in_ok-plan.plan (passing c.args.queue) plan.kind plan.wired.0 plan.wired.1 plan.wired.2 plan.wired.3 in
    only_memory (routes_of c.in_ok-wiring.wiring.plans) (passing c.args.queue ∷ []) (c.args.count ∷ 0 ∷ []) c.new.result (ap routes_of c.in_ok-wiring.ensures.wired.1 ∙ route) (few_passing c.args.queue c.args.count c.requires.few)
    c.new.ensures.too_many
