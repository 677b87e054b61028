use Rattle.std.proofs.Common.{◌∙◌, ap, arith, length}
use Rattle.cy_tools.specs.private.Giving.{numbers_from}
use Rattle.cy_tools.proofs.Searching.{from_start, begun}
use Rattle.cy_tools.proofs.numbering.Numbering.of.Goals as goal

pub loop-place-init : goal.loop-place-init
loop-place-init c =
    let whole = ap length (from_start c.args.kept.now) in
    record {
      numbers = ap (λ l. numbers_from c.args.kept.now l 0) c.in_ok-order.ensures.numbers ∙ begun c.args.kept.now;
      all = c.in_ok-order.ensures.all ∙ c.channels.ensures;
      count = omega (arith, whole);
      few = omega arith;
    }

pub loop-place-preserved : goal.loop-place-preserved
loop-place-preserved c =
    let inv = c.loop-place.invariant in
    let looked = c.in_ok-look.ensures.looked in
    let few = inv.few in
    let more = looked.few in
    record {
      numbers = looked.numbers ∙ inv.numbers;
      all = looked.all ∙ inv.all;
      count = looked.count ∙ inv.count;
      few = omega (arith, more, few);
    }
