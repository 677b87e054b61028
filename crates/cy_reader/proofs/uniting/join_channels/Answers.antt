use Rattle.std.proofs.Common.{◌≡◌, ◌<◌, ◌+◌, ◌∷◌, [], suc, length, drop, sym, ap, ◌∙◌, arith, add-one, drop-cons, length-append}
use Rattle.std.proofs.lemmas.List.{get_or_read}
use Rattle.cy_reader.specs.declared.known.Known.{Known}
use Rattle.cy_reader.specs.Record.{named_only}
use Rattle.cy_reader.specs.private.Alone.{name_in}
use Rattle.cy_reader.proofs.Behind.{below_grow}
use Rattle.cy_reader.proofs.JoinedChannels.{joined_one, numbers_more, one_small}
use Rattle.cy_reader.proofs.uniting.join_channels.Goals as goal

pub join_channel-requires-clause-size : goal.join_channel-requires-clause-size
join_channel-requires-clause-size c = one_small c.args.later.now c.loop-known.known-index c.known-item.result c.requires.later (omega (arith, c.loop-known-test.true)) c.known-item.is

pub loop-known-preserved : goal.loop-known-preserved
loop-known-preserved c =
    let so_far = c.loop-known.invariant in
    let at = c.loop-known.known-index in
    let others = c.args.later.now in
    let known = c.known-item.result in
    let numbers = c.loop-known.numbers.items in
    let number = c.in_ok-number.number in
    let now = c.loop-known.channels.list.items in
    let new = c.join_channel.new.channels.list.items in
    let kept = c.in_ok-number.ensures.kept in
    let inside : at < length others = omega (arith, c.loop-known-test.true) in
    let left : drop at others ≡ known ∷ drop (at + 1) others = rw add-one (drop-cons others at known inside ∙ ap (λ (k : Known). k ∷ drop (suc at) others) (sym c.known-item.is)) in
    let joined = c.in_ok-number.ensures.list in
    let named : known.channel.name ≡ name_in others (length numbers) = ap (λ (k : Known). k.channel.name) (get_or_read others at known inside c.known-item.is (named_only [])) ∙ ap (name_in others) (sym so_far.many) in
    record {
      so_far = joined_one (drop at others) (drop (at + 1) others) known now new _ left joined so_far.so_far;
      small = kept.grows.small;
      tied = kept.grows.tied;
      grown = omega (arith, so_far.grown, kept.grows.grown);
      many = omega (arith, ap length c.in_ok-push.ensures.items, length-append numbers (number ∷ []), so_far.many);
      each = numbers_more others numbers c.push.new.self.items number known now new c.in_ok-push.ensures.items named joined kept.number so_far.each;
      below = below_grow (length now) (length new) number numbers c.push.new.self.items c.in_ok-push.ensures.items so_far.below kept.grows.grown kept.below;
    }
