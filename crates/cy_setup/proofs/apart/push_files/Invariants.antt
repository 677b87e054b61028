use Rattle.std.proofs.Common.{◌≡◌, ◌++◌, map, take}
use Rattle.cy_setup.specs.Configuration.{files_of}
use Rattle.cy_setup.proofs.apart.push_files.Given as goal

abbrev pub invariant-loop-component : goal.invariant-loop-component
invariant-loop-component l = map (λ n. n.now) l.names.items ≡ map (λ n. n.now) l.fn.names.items ++ files_of (take l.component-index l.fn.components)
