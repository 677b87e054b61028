use Rattle.wake_core.proofs.Parting.{apart_shown, apart_fits}
use Rattle.wake_core.proofs.world.World.apart.Goals as goal

pub returns-clause-shown : goal.returns-clause-shown
returns-clause-shown c = apart_shown c.args.self c.requires c.new.ensures c.new-2.ensures c.new-3.ensures

pub returns-clause-fit : goal.returns-clause-fit
returns-clause-fit c = apart_fits c.args.self c.requires c.new.ensures c.new-2.ensures c.new-3.ensures
