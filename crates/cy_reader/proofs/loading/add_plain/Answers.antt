use Rattle.std.proofs.Common.{arith}
use Rattle.cy_cut.specs.Found.{seen_section}
use Rattle.cy_reader.specs.private.Loading.{met_with}
use Rattle.cy_reader.proofs.Slices.{channel_short, self_within}
use Rattle.cy_reader.proofs.Meeting.{channel_section, channel_leads}
use Rattle.cy_reader.proofs.loading.add_plain.Goals as goal

pub give-requires-clause-size : goal.give-requires-clause-size
give-requires-clause-size c =
    let at = c.args.section.now.body_at in
    let body = c.args.section.now.body.now in
    let short = channel_short at body at body c.in_ok-channel-in-Channel.channel (self_within at body) c.in_ok-channel-in-Channel.ensures in
    let few = c.requires.short.short in
    omega arith

pub returns-in_ok-channel-in-Channel-clause-met : goal.returns-in_ok-channel-in-Channel-clause-met
returns-in_ok-channel-in-Channel-clause-met c messages =
    let contents = met_with c.args.channels.now messages in
    rw (channel_section (seen_section c.args.section.now) c.in_ok-channel-in-Channel.channel contents c.in-Channel.is c.in_ok-channel-in-Channel.ensures)
    (channel_leads c.give.result c.in_ok-channel-in-Channel.channel contents c.give.new.channels.list.items c.give.ensures.list)
