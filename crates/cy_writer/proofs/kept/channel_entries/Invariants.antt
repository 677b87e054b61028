use Rattle.std.proofs.Common.{◌≡◌, map}
use Rattle.cy_writer.specs.Kept.{channel_entry}
use Rattle.cy_writer.proofs.kept.channel_entries.Given as goal

abbrev pub invariant-loop-channel : goal.invariant-loop-channel
invariant-loop-channel l = l.entries.items ≡ map channel_entry l.yielded
