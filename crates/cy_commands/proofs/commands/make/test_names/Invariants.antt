use Rattle.std.proofs.Common.{◌≡◌, ◌∷◌, map, take}
use Rattle.cy_setup.specs.Apart.{standard_output}
use Rattle.cy_commands.proofs.commands.make.test_names.Given as goal

abbrev pub invariant-loop-name : goal.invariant-loop-name
invariant-loop-name g l = record {
  same : g.S.Store.shows l.store ≡ g.S.Store.shows l.fn.store;
  others : map (λ o. o.now) l.others.items ≡ standard_output ∷ take l.name-index l.fn.names;
}
