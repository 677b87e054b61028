use Rattle.std.proofs.Common.{◌≡◌, map, take}
use Rattle.cy_msg.specs.Filter.{lets_channel}
use Rattle.cy_reader.specs.declared.known.Known.{Known}
use Rattle.cy_tools.proofs.kept.Lets.of.Given as goal

abbrev pub invariant-loop-number : goal.invariant-loop-number
invariant-loop-number l = l.channels.items ≡ map (λ (k : Known). lets_channel l.filter k.channel.name) (take l.number l.loaded.channels)
