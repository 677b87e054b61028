use Rattle.wake_core.specs.WorldOf.{plain_of, to_step}
use Rattle.wake_core.proofs.Acting.{follow_may, follow_stepped, follow_resumes}
use Rattle.wake_core.proofs.serial_run.follow.Goals as goal

pub give_back-requires-clause-may : goal.give_back-requires-clause-may
give_back-requires-clause-may c = follow_may c.args.component (plain_of c.args.world.now) c.requires.held c.args.outcome.now c.requires.outcome (plain_of c.send_out.new.world) c.send_out.ensures.sends
    c.state_of.result c.state_of.ensures

pub give_back-requires-clause-stepped : goal.give_back-requires-clause-stepped
give_back-requires-clause-stepped c = follow_stepped c.args.component (plain_of c.args.world.now) c.requires.held c.args.outcome.now c.requires.outcome (plain_of c.send_out.new.world) c.send_out.ensures.sends
    (to_step c.args.world.now) (to_step c.send_out.new.world) c.requires.stepped c.send_out.ensures.steps

pub returns : goal.returns
returns c = follow_resumes c.args.component (plain_of c.args.world.now) c.requires.held c.args.outcome.now c.requires.outcome (plain_of c.send_out.new.world) c.send_out.ensures.sends
    c.fetches_find.ensures.find c.state_of.result (plain_of c.give_back.new.self) c.give_back.ensures.event
