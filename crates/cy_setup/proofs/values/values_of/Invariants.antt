use Rattle.std.proofs.Common.{◌≡◌, take}
use Rattle.std.specs.List.{flat_map}
use Rattle.cy_setup.proofs.values.values_of.Given as goal

abbrev pub invariant-loop-config : goal.invariant-loop-config
invariant-loop-config l = l.values.items ≡ flat_map (λ c. c.options.values) (take l.config-index l.configs)
