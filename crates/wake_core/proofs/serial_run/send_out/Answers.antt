use Rattle.wake_core.specs.WorldOf.{plain_of}
use Rattle.wake_core.proofs.Acting.{holds_out}
use Rattle.wake_core.proofs.serial_run.send_out.Goals as goal

pub returns-then-holds-clause-sends : goal.returns-then-holds-clause-sends
returns-then-holds-clause-sends c = holds_out c.args.component (plain_of c.args.world.now) c.requires.held c.args.outcome.now c.requires.outcome c.holds.result c.holds.ensures c.if-holds.true
