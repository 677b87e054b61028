use Rattle.std.proofs.Common.{◌≡◌, map, take}
use Rattle.cy_wiring.specs.Wiring.{named}
use Rattle.cy_wiring.proofs.channels.names.Given as goal

abbrev pub invariant-loop-mention : goal.invariant-loop-mention
invariant-loop-mention l = l.names ≡ named (map (λ m. m.now) (take l.mention-index l.mentions))
