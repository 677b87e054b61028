use Rattle.std.proofs.Common.{◌≡◌, map, take}
use Rattle.cy_wiring.specs.Wiring.{number_in}
use Rattle.cy_wiring.proofs.plan.numbers.Given as goal

abbrev pub invariant-loop-reader : goal.invariant-loop-reader
invariant-loop-reader l = l.numbers.items ≡ map (λ r. number_in l.names r.channel) (take l.reader-index l.readers)
