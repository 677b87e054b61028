use Rattle.std.proofs.Common.{arith}
use Rattle.cy_setup.proofs.Playable.{few_up_to}
use Rattle.cy_setup.proofs.stops.stop_of.Goals as goal

pub overflow_cast-after : goal.overflow_cast-after
overflow_cast-after c =
    let few = few_up_to c.in_ok-asked.asked.time c.args.tokens.now in
    let same = c.count_up_to-after.ensures in
    let short = c.requires in
    omega (arith, few, same, short)
