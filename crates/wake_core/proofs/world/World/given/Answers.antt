use Rattle.wake_core.specs.WorldOf.{plain_of}
use Rattle.wake_core.proofs.world.World.given.Goals as goal

pub returns : goal.returns
unfolding plain_of
returns c = c.stop.ensures
