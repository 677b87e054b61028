use Rattle.cy_info.specs.private.Facts.{counted_line}
use Rattle.cy_info.proofs.Telling.{numbered-more}
use Rattle.cy_info.proofs.info.push_channels.Goals as goal

pub loop-number-preserved : goal.loop-number-preserved
loop-number-preserved c =
    numbered-more (counted_line c.args.counts.now) c.args.channels.now c.loop-number.number c.index-channels-number.result c.args.to.now.items c.loop-number.to.items c.push_channel.new.to.items c.loop-number-test.true
    c.index-channels-number.is c.loop-number.invariant c.in_ok-push_channel.ensures
