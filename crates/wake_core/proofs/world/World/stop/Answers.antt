use Rattle.std.proofs.Common.{refl, true}
use Rattle.wake_core.specs.WorldOf.{plain_of, to_step}
use Rattle.wake_core.proofs.Sounding.{stop_sound}
use Rattle.wake_core.proofs.world.World.stop.Goals as goal

pub invariant_of-self : goal.invariant_of-self
unfolding plain_of
invariant_of-self c =
    record {
      sized = c.args.self.now.sized;
      flagged = c.args.self.now.flagged;
      stepping = c.args.self.now.stepping;
      waiting = c.args.self.now.waiting;
      visited = c.args.self.now.visited;
      roomy = c.args.self.now.roomy;
      owing = c.args.self.now.owing;
      counted = c.args.self.now.counted;
      sound = stop_sound (plain_of c.args.self.now) record (plain_of c.args.self.now) { raised = true } c.requires.event c.args.self.now.sound;
    }

pub returns-clause-event : goal.returns-clause-event
unfolding plain_of
returns-clause-event c = c.requires.event

pub returns-clause-steps : goal.returns-clause-steps
unfolding to_step
returns-clause-steps c = refl
