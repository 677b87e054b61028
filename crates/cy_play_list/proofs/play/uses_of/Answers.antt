use Rattle.std.proofs.Common.{◌<◌, ◌∙◌, length, ap, arith, rules, length-append, [], ◌∷◌}
use Rattle.cy_play_list.specs.Play.{Choice}
use Rattle.cy_play_list.specs.private.Uses.{use_of}
use Rattle.cy_play_list.proofs.Playing.{named-at, uses-more}
use Rattle.cy_play_list.proofs.play.uses_of.Goals as goal

pub use_of-requires-clause-kept : goal.use_of-requires-clause-kept
use_of-requires-clause-kept c =
    let less : c.loop-channel.channel < length c.args.whole.now.channels = search rules in
    rw c.as_str-name.ensures.value (named-at c.args.names.now c.args.whole.now c.loop-channel.channel c.channel.result.now c.requires.named less c.channel.ensures).0

pub loop-channel-preserved : goal.loop-channel-preserved
loop-channel-preserved c =
    let less : c.loop-channel.channel < length c.args.whole.now.channels = search rules in
    let choice : Choice = record { names = c.args.names.now; filter = c.args.filter.now; written = c.args.written.now; values = c.args.values.now } in
    let name = (named-at c.args.names.now c.args.whole.now c.loop-channel.channel c.channel.result.now c.requires.named less c.channel.ensures).1 in
    let inv = c.loop-channel.invariant in
    let all = inv.all in
    let longer = length-append c.loop-channel.uses.items (c.use_of.result ∷ []) in
    rw c.in_ok-push.ensures.items (record {
      all = omega (arith, longer, all);
      each = uses-more c.args.whole.now choice c.loop-channel.uses.items c.loop-channel.channel c.use_of.result all (c.use_of.ensures ∙ ap (use_of choice) (c.as_str-name.ensures.value ∙ name)) inv.each;
    })
