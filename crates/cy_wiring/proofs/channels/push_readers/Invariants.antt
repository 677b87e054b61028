use Rattle.std.proofs.Common.{◌≡◌, ◌++◌, map, take}
use Rattle.cy_wiring.proofs.channels.push_readers.Given as goal

abbrev pub invariant-loop-reader : goal.invariant-loop-reader
invariant-loop-reader l = map (λ m. m.now) l.mentions.items ≡ map (λ m. m.now) l.fn.mentions.items ++ map (λ r. r.channel) (take l.reader-index l.readers)
