use Rattle.std.specs.Vec.Iter.{into_iter_items}
use Rattle.cy_setup.proofs.ValuesFound.{AreValued}
use Rattle.cy_wiring.specs.Given.{values_of}
use Rattle.cy_setup.proofs.values.valued_configs.Given as goal

abbrev pub invariant-loop-config : goal.invariant-loop-config
invariant-loop-config l = AreValued (values_of l.fn.configs.items) l.fn.configs.items (into_iter_items l.config-iterator) l.valued.items
