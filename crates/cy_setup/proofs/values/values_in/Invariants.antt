use Rattle.std.proofs.Common.{◌≡◌, take}
use Rattle.std.specs.List.{flat_map}
use Rattle.cy_setup.proofs.values.values_in.Given as goal

abbrev pub invariant-loop-plan : goal.invariant-loop-plan
invariant-loop-plan l = l.values.items ≡ flat_map (λ c. c.options.values) (take l.plan-index l.plans)
