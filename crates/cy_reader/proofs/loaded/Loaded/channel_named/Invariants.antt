use Rattle.std.proofs.Common.{◌≡◌, None, take}
use Rattle.cy_reader.specs.Named.{known_as}
use Rattle.cy_reader.proofs.loaded.Loaded.channel_named.Given as goal

abbrev pub invariant-loop-number : goal.invariant-loop-number
invariant-loop-number l = known_as l.name (take l.number l.self.channels) ≡ None
