use Rattle.wake_core.specs.WorldOf.{plain_of}
use Rattle.wake_core.proofs.world.World.played.Goals as goal

pub returns : goal.returns
unfolding plain_of
returns c = c.args.self.now.counted
