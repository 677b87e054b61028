use Rattle.cy_reader.proofs.JoinedChannels.{joined_same, joined_united, united_small, united_there}
use Rattle.cy_reader.proofs.uniting.unite.Goals as goal

pub replace-requires-clause-there : goal.replace-requires-clause-there
replace-requires-clause-there c =
    united_there c.args.later.now c.args.channels.now.list.items c.args.number c.index-known.result.now c.in_ok-known.known c.requires.there c.index-known.ensures c.in_ok-known.ensures.known

pub replace-requires-clause-size : goal.replace-requires-clause-size
replace-requires-clause-size c =
    united_small c.args.later.now c.args.channels.now.list.items c.args.number c.index-known.result.now c.in_ok-known.known c.requires.small c.requires.size c.requires.there c.index-known.ensures c.in_ok-known.ensures.known

pub returns-then-has_all-clause-list : goal.returns-then-has_all-clause-list
returns-then-has_all-clause-list c =
    joined_same c.args.later.now c.args.channels.now.list.items c.args.number c.index-known.result.now c.requires.small c.requires.there c.index-known.ensures (c.has_all.ensures c.if-has_all.true)

pub returns-clause-list : goal.returns-clause-list
returns-clause-list c =
    rw (joined_united c.args.later.now c.args.channels.now.list.items c.args.number c.index-known.result.now c.in_ok-known.known c.requires.there c.index-known.ensures c.in_ok-known.ensures.known) c.replace.ensures.list
