use Rattle.std.proofs.Common.{◌<◌, ◌∙◌, length, arith}
use Rattle.wake_core.specs.Run.{routes_of}
use Rattle.wake_core.proofs.Counting.{counts_added}
use Rattle.wake_core.proofs.entries.planned_messages.Goals as goal

pub loop-channel-preserved : goal.loop-channel-preserved
loop-channel-preserved c =
    let within : c.loop-channel.channel < length c.args.counts.now = omega (arith, c.loop-channel-test.true, c.count-channel-end.ensures.count, c.requires) in
    record {
      sums = counts_added (routes_of c.args.wiring.now.plans) c.args.counts.now c.loop-channel.channel (length c.args.counts.now) c.loop-channel.sum c.from-sum.result _ within (c.from-sum.ensures ∙ c.planned_on.ensures) c.loop-channel.invariant.sums;
      most = omega (arith, c.loop-channel.invariant.most, c.planned_on.type_inv, c.from-sum.ensures);
    }
