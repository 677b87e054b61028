use Rattle.std.proofs.Common.{rules}
use Rattle.cy_reader.proofs.JoinedChannels.{mentions_last}
use Rattle.cy_reader.proofs.uniting.join_channel.Goals as goal

pub returns-clause-kept : goal.returns-clause-kept
returns-clause-kept c = mentions_last c.args.later.now c.in_ok-copied.field-0 c.args.channels.now c.add.new.channels c.len-number.result c.in_ok-add.ensures.kept (search rules) c.in_ok-copied.ensures.known c.in_ok-add.ensures.list (search rules)
