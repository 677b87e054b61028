use Rattle.std.proofs.Common.{take}
use Rattle.cy_wiring.specs.Wiring.{AreConfigs}
use Rattle.cy_setup.proofs.Configs.{AreRead}
use Rattle.cy_setup.proofs.read.read_configs.Given as goal

abbrev pub invariant-loop-number : goal.invariant-loop-number
invariant-loop-number g l = record {
  read : AreRead l.fn.components l.number l.configs.items (g.S.Store.shows l.fn.store) (g.S.Store.shows l.store);
  fit : AreConfigs (take l.number l.fn.components) l.configs.items;
}
