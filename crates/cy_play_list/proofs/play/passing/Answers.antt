use Rattle.std.proofs.Common.{arith}
use Rattle.cy_play_list.proofs.Playing.{more-played, more-shadowed, one_at_most, below-more}
use Rattle.cy_play_list.proofs.play.passing.Goals as goal

pub loop-place-preserved : goal.loop-place-preserved
loop-place-preserved c =
    let inv = c.loop-place.invariant in
    let uses = c.args.uses.now in
    let n = c.loop-place.place in
    let one = one_at_most uses c.args.filter.now c.args.whole.now n in
    let taken = c.in_ok-take.ensures.looked.shadowed in
    let before = inv.few in
    record {
      places = more-played uses c.args.filter.now c.args.whole.now n _ _ inv.places c.in_ok-take.ensures.looked.places;
      shadowed = more-shadowed uses c.args.filter.now c.args.whole.now n _ _ inv.shadowed taken;
      few = omega (arith, one, taken, before);
      below = below-more c.args.whole.now n inv.below c.in_ok-take.ensures.below;
    }
