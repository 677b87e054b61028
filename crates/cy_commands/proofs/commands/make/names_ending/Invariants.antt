use Rattle.std.proofs.Common.{◌≡◌, ◌++◌, map, take}
use Rattle.cy_commands.proofs.commands.make.names_ending.Given as goal

abbrev pub invariant-loop-suffix : goal.invariant-loop-suffix
invariant-loop-suffix l = l.names.items ≡ map (λ suffix. l.fn.prefix ++ suffix.now) (take l.suffix-index l.fn.suffixes)
