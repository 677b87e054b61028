use Rattle.std.proofs.Common.{ap, Option, option_map}
use Rattle.wake_core.specs.declared.found.Found.{Found}
use Rattle.wake_core.specs.WorldOf.{plain_of, to_step}
use Rattle.wake_core.proofs.Runs.{none_lost}
use Rattle.wake_core.proofs.world.World.sound.Goals as goal

pub returns-clause-sound : goal.returns-clause-sound
unfolding plain_of
returns-clause-sound c = c.args.self.now.sound

pub returns-clause-none_lost : goal.returns-clause-none_lost
unfolding plain_of
returns-clause-none_lost c = none_lost (plain_of c.args.self.now) c.args.self.now.sound

pub returns-clause-stepped : goal.returns-clause-stepped
unfolding plain_of to_step
returns-clause-stepped c = λ k still. ap (λ (o : Option Found). option_map (λ (f : Found). f.tuple) o) (c.args.self.now.stepping.stepped k still)
