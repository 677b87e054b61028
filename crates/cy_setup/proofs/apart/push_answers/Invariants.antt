use Rattle.std.proofs.Common.{◌≡◌, ◌++◌, map, take}
use Rattle.cy_setup.specs.Apart.{answers_read}
use Rattle.cy_setup.proofs.apart.push_answers.Given as goal

abbrev pub invariant-loop-config : goal.invariant-loop-config
invariant-loop-config l = map (λ n. n.now) l.names.items ≡ map (λ n. n.now) l.fn.names.items ++ answers_read (take l.config-index l.configs)
