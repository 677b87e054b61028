use Rattle.std.proofs.Common.{◌≡◌, map, take}
use Rattle.cy_writer.specs.Record.{channels_shown}
use Rattle.cy_recording.specs.Recording.{source_of, channel_of}
use Rattle.cy_recording.proofs.recording.written_channels.Given as goal

abbrev pub invariant-loop-channel : goal.invariant-loop-channel
invariant-loop-channel l = channels_shown l.written.items ≡ map (channel_of (source_of l.played)) (take l.channel-index l.channels)
