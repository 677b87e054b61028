use Rattle.std.proofs.Common.{rules, arith}
use Rattle.cy_setup.proofs.Counting.{count_fits, all_counted}
use Rattle.cy_setup.proofs.counts.counts_of.Goals as goal

pub overflow_add-index_mut : goal.overflow_add-index_mut
overflow_add-index_mut c =
    let fits = count_fits c.args.channels c.loop-token.token-index c.args.tokens.now c.loop-token.counts.items _ c.index_mut.result.now c.loop-token.invariant (search rules) c.requires.few (c.requires.named c.loop-token.token-index _ (search rules)) c.index_mut.ensures.value in
    omega (arith, fits)

pub returns : goal.returns
returns c = all_counted c.args.channels c.loop-token.token-index c.args.tokens.now c.loop-token.counts.items c.requires.named c.loop-token.invariant (search rules)
