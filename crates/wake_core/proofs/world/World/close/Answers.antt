use Rattle.std.proofs.Common.{refl}
use Rattle.wake_core.specs.WorldOf.{plain_of, to_step}
use Rattle.wake_core.proofs.world.World.close.Goals as goal

pub returns-clause-event : goal.returns-clause-event
unfolding plain_of
returns-clause-event c = c.requires.event

pub returns-clause-steps : goal.returns-clause-steps
unfolding to_step
returns-clause-steps c = refl
