use Rattle.std.proofs.Common.{[], take}
use Rattle.cy_writer.specs.Record.{channels_shown}
use Rattle.cy_writer.proofs.RecordCalls.{IsUnderWay}
use Rattle.cy_writer.proofs.record.start_record.Given as goal

abbrev pub invariant-loop-channel : goal.invariant-loop-channel
invariant-loop-channel g l = IsUnderWay l.name (channels_shown (take l.channel-index l.channels)) [] l.writer (g.S.Store.shows l.fn.store) (g.S.Store.shows l.store)
