use Rattle.std.proofs.Common.{◌<◌, length, rules}
use Rattle.cy_tools.proofs.Searching.{table_more, table_all}
use Rattle.cy_tools.proofs.kept.Lets.of.Goals as goal

pub loop-number-preserved : goal.loop-number-preserved
loop-number-preserved c =
    let less : c.loop-number.number < length c.args.loaded.now.channels = search rules in
    table_more c.args.filter.now c.args.loaded.now.channels c.loop-number.channels.items _ c.loop-number.number c.channel.result.now _ c.lets_channel.result less c.loop-number.invariant c.channel.ensures
    c.as_str-name.ensures.value c.lets_channel.ensures c.in_ok-push.ensures.items

pub returns-clause-table : goal.returns-clause-table
returns-clause-table c =
    table_all c.args.filter.now c.args.loaded.now.channels c.loop-number.channels.items c.loop-number.number c.channels-number-end.result c.channels-number-end.ensures c.loop-number-test.false
    c.loop-number.invariant
