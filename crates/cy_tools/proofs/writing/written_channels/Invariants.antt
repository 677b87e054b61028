use Rattle.std.proofs.Common.{◌≡◌, map, take}
use Rattle.cy_writer.specs.Record.{channels_shown}
use Rattle.cy_tools.specs.Kept.{channel_at}
use Rattle.cy_tools.proofs.writing.written_channels.Given as goal

abbrev pub invariant-loop-number : goal.invariant-loop-number
invariant-loop-number l = channels_shown l.written.items ≡ map (channel_at l.loaded.channels) (take l.number-index l.numbers)
