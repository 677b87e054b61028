use Rattle.std.proofs.Common.{length}
use Rattle.cy_writer.specs.Record.{channels_shown}
use Rattle.cy_writer.proofs.Giving.{IsHalfway}
use Rattle.cy_writer.proofs.record.write_record.Given as goal

abbrev pub invariant-loop-writer : goal.invariant-loop-writer
invariant-loop-writer g l = record {
  half : IsHalfway l.name (channels_shown l.channels) (g.M.Messages.shows l.fn.messages).rest (g.M.Messages.shows l.messages) l.writer (g.S.Store.shows l.fn.store) (g.S.Store.shows l.store);
  can_next : g.M.Messages.can_next l.messages;
}

abbrev pub decreases-loop-writer : goal.decreases-loop-writer
decreases-loop-writer g l = length (g.M.Messages.shows l.messages).rest
