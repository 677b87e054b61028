use Rattle.std.proofs.Common.{◌≡◌, ◌++◌, map, take}
use Rattle.cy_wiring.proofs.channels.push_record.Given as goal

abbrev pub invariant-loop-channel : goal.invariant-loop-channel
invariant-loop-channel l = map (λ m. m.now) l.mentions.items ≡ map (λ m. m.now) l.fn.mentions.items ++ take l.channel-index l.channels
