use Rattle.cy_trace_text.proofs.Starts.{starts_more}
use Rattle.cy_trace_text.proofs.start.line_starts.Goals as goal

pub loop-channel-preserved : goal.loop-channel-preserved
loop-channel-preserved c =
    starts_more c.loop-channel.starts.items _ c.in_ok-start_for.field-0 c.args.names.now c.loop-channel.channel c.name.result.now c.name.ensures c.loop-channel.invariant c.in_ok-push.ensures.items c.in_ok-start_for.ensures
