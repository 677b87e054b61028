use Rattle.std.proofs.Common.{refl}
use Rattle.wake_core.specs.WorldOf.{plain_of}
use Rattle.wake_core.proofs.world.World.clock.Goals as goal

pub returns : goal.returns
unfolding plain_of
returns c = refl
