use Rattle.wake_core.specs.WorldOf.{plain_of}
use Rattle.wake_core.specs.Plain.{Checked}
use Rattle.wake_core.proofs.Parking.{known_running}
use Rattle.wake_core.proofs.serial_run.go_on.Goals as goal

pub unsent-requires-clause-component : goal.unsent-requires-clause-component
unfolding plain_of
unsent-requires-clause-component c = c.args.world.now.sound.consistent.held.known 0 c.args.component Checked c.requires.held.held

pub unsent-requires-clause-stepped : goal.unsent-requires-clause-stepped
unsent-requires-clause-stepped c = c.sound.ensures.stepped c.args.component (known_running c.args.component Checked (λ e. cc) (plain_of c.args.world.now) c.requires.held c.sound.ensures.sound c.requires.ready)
