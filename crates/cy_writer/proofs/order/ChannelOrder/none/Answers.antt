use Rattle.std.proofs.Common.{rules, ◌≡◌, ◌<◌, ◌^◌, replicate, None}
use Rattle.cy_writer.proofs.OrderTable.{none_noted}
use Rattle.cy_writer.proofs.order.ChannelOrder.none.Goals as goal

pub invariant_of-result : goal.invariant_of-result
invariant_of-result c =
    let items : c.in_ok-places.places.items ≡ replicate c.args.channels None = search rules in
    let few : c.args.channels < 2 ^ 32 = c.ranges.channels.fits in
    rw (c.in_ok-numbers.ensures.items, items) (none_noted c.args.channels few)
