use Rattle.std.proofs.Common.{◌≡◌, take}
use Rattle.std.specs.List.{flat_map}
use Rattle.cy_make.specs.Inputs.{config_writes}
use Rattle.cy_make.proofs.Writing.{AreMade}
use Rattle.cy_make.proofs.inputs.write_configs.Given as goal

abbrev pub invariant-loop-config : goal.invariant-loop-config
invariant-loop-config g l = AreMade (flat_map (config_writes l.prefix) (take l.config-index l.configs)) (g.S.Store.shows l.fn.store) (g.S.Store.shows l.store)
