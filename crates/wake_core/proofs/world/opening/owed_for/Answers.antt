use Rattle.std.proofs.Common.{◌+◌, sym, subst}
use Rattle.wake_core.specs.private.Opening.{AreNothing}
use Rattle.wake_core.proofs.Beginning.{nothing_added}
use Rattle.wake_core.proofs.world.opening.owed_for.Goals as goal

pub loop-preserved : goal.loop-preserved
loop-preserved c = record {
  so_far = subst (AreNothing c.args.room (c.loop.counter + 1)) (sym c.in_ok-push.ensures.items) (nothing_added c.args.room c.loop.counter c.loop.owed.items c.in_ok-nothing.field-0 c.loop.invariant.so_far c.in_ok-nothing.ensures.owes);
}
