use Rattle.std.proofs.Common.{◌≡◌, ◌<◌, ◌+◌, ◌∷◌, [], suc, length, drop, sym, ap, ◌∙◌, arith, add-one, drop-cons, length-append}
use Rattle.std.proofs.lemmas.List.{get_or_read}
use Rattle.cy_reader.specs.declared.known.Known.{Known}
use Rattle.cy_reader.specs.Record.{named_only}
use Rattle.cy_reader.specs.private.Alone.{name_in}
use Rattle.cy_reader.proofs.Behind.{mentioned_one, numbers_grow, below_grow}
use Rattle.cy_reader.proofs.joining.mention_all.Goals as goal

pub loop-known-preserved : goal.loop-known-preserved
loop-known-preserved c =
    let so_far = c.loop-known.invariant in
    let at = c.loop-known.known-index in
    let others = c.args.others.now in
    let known = c.known-item.result in
    let numbers = c.loop-known.numbers.items in
    let number = c.in_ok-number.number in
    let now = c.loop-known.channels.list.items in
    let new = c.mention.new.channels.list.items in
    let kept = c.in_ok-number.ensures.kept in
    let inside : at < length others = omega (arith, c.loop-known-test.true) in
    let left : drop at others ≡ known ∷ drop (at + 1) others = rw add-one (drop-cons others at known inside ∙ ap (λ (k : Known). k ∷ drop (suc at) others) (sym c.known-item.is)) in
    let met = rw c.as_str.ensures.value at c.in_ok-number.ensures.list in
    let named : known.channel.name ≡ name_in others (length numbers) = ap (λ (k : Known). k.channel.name) (get_or_read others at known inside c.known-item.is (named_only [])) ∙ ap (name_in others) (sym so_far.many) in
    record {
      so_far = mentioned_one (drop at others) (drop (at + 1) others) known now new _ left met so_far.so_far;
      small = kept.grows.small;
      tied = kept.grows.tied;
      grown = omega (arith, so_far.grown, kept.grows.grown);
      many = omega (arith, ap length c.in_ok-push.ensures.items, length-append numbers (number ∷ []), so_far.many);
      each = numbers_grow others numbers c.push.new.self.items number known.channel.name now new c.in_ok-push.ensures.items named met (rw c.as_str.ensures.value at kept.number) so_far.each;
      below = below_grow (length now) (length new) number numbers c.push.new.self.items c.in_ok-push.ensures.items so_far.below kept.grows.grown kept.below;
    }
