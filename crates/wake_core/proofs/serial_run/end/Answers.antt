use Rattle.std.proofs.Common.{sym}
use Rattle.wake_core.specs.WorldOf.{plain_of, to_step}
use Rattle.wake_core.specs.Plain.{Stopping}
use Rattle.wake_core.proofs.Parking.{known_running}
use Rattle.wake_core.proofs.Stopped.{ready, quiet_may, quiet_stepped, quiet_resumes}
use Rattle.wake_core.proofs.serial_run.end.Goals as goal

pub unsent-requires-clause-component : goal.unsent-requires-clause-component
unfolding plain_of
unsent-requires-clause-component c = c.args.world.now.sound.consistent.held.known 0 c.args.component Stopping c.requires.held.held

pub unsent-requires-clause-stepped : goal.unsent-requires-clause-stepped
unsent-requires-clause-stepped c =
    c.sound.ensures.stepped c.args.component (known_running c.args.component Stopping (λ e. cc) (plain_of c.args.world.now) c.requires.held c.sound.ensures.sound (ready c.args.component (plain_of c.args.world.now) c.requires.held c.sound.ensures.sound))

pub give_back-requires-clause-may : goal.give_back-requires-clause-may
unfolding plain_of
give_back-requires-clause-may c = quiet_may c.args.component (plain_of c.args.world.now) c.requires.held c.args.world.now.sound (sym c.in-None.ensures)

pub give_back-requires-clause-stepped : goal.give_back-requires-clause-stepped
unfolding plain_of
give_back-requires-clause-stepped c = quiet_stepped c.args.component (plain_of c.args.world.now) c.requires.held c.args.world.now.sound (sym c.in-None.ensures) (to_step c.args.world.now)

pub returns-in-None : goal.returns-in-None
unfolding plain_of
returns-in-None c = quiet_resumes c.args.component (plain_of c.args.world.now) c.requires.held c.args.world.now.sound (sym c.in-None.ensures) (plain_of c.give_back.new.self) c.give_back.ensures.event
