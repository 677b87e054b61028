use Rattle.std.proofs.Common.{◌≡◌, map, take}
use Rattle.std.specs.List.{flat_map}
use Rattle.cy_config.specs.Lookups.{messages_under}
use Rattle.cy_dag.proofs.read.in_modules.Given as goal

abbrev pub invariant-loop-module : goal.invariant-loop-module
invariant-loop-module l = map (λ m. m.now) l.found.items ≡ flat_map (messages_under l.name) (map (λ m. m.now) (take l.module-index l.modules))
