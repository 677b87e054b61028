use Rattle.std.proofs.Common.{[], arith, refl}
use Rattle.cy_fuse.specs.Cache.{cache_of}
use Rattle.cy_fuse.proofs.Arrivals.{prepared_is}
use Rattle.cy_fuse.proofs.visitor.Visitor.prepare.Goals as goal

pub invariant_of-result : goal.invariant_of-result
invariant_of-result c =
    let made = c.in_ok-with_size.ensures in
    rw made (prepared_is c.args.queue c.args.roles _ _ _ _ (cache_of c.args.queue []) c.requires.queue c.requires.roles.0 c.requires.roles.1 (omega arith) c.in_ok-with_capacity.ensures.items
    c.nothing.ensures (omega (arith, c.in_ok-with_capacity.ensures.capacity)) refl)
