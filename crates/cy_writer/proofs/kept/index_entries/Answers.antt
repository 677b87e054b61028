use Rattle.cy_writer.proofs.Closing.{entries_more}
use Rattle.std.proofs.Common.{map}
use Rattle.cy_writer.specs.Kept.{channel_entry}
use Rattle.cy_writer.proofs.kept.index_entries.Goals as goal

pub loop-chunk-preserved : goal.loop-chunk-preserved
loop-chunk-preserved c =
    entries_more (map channel_entry c.args.channels.items) c.args.chunks.now c.loop-chunk.chunk-index _ _ _ _ _ _ c.loop-chunk.invariant c.in_ok-push.ensures.items c.in_ok-push-2.ensures.items
    c.header_entry.ensures c.body_entry.ensures c.loop-chunk-test.true
