use Rattle.cy_reader.proofs.Sums.{given-kept, given-replaced}
use Rattle.cy_reader.proofs.channels.give_again.Goals as goal

pub returns-then-index-clause-list : goal.returns-then-index-clause-list
returns-then-index-clause-list c = given-kept c.args.channel c.args.channels.now.list.items c.args.number c.index.result.now c.requires.short c.requires.there c.index.ensures c.if-index.true

pub returns-clause-list : goal.returns-clause-list
returns-clause-list c =
    let replaced = given-replaced c.args.channel c.args.channels.now.list.items c.args.number c.index.result.now c.requires.short c.requires.there c.index.ensures c.if-index.false in
    rw replaced c.replace.ensures.list
