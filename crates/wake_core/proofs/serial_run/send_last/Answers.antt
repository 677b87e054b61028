use Rattle.wake_core.specs.WorldOf.{plain_of, to_step}
use Rattle.wake_core.proofs.Stopped.{last_may, last_stepped, sent_may, sent_stepped, sent_resumes}
use Rattle.wake_core.proofs.serial_run.send_last.Goals as goal

pub send-requires-clause-may : goal.send-requires-clause-may
unfolding plain_of
send-requires-clause-may c = last_may c.args.component (plain_of c.args.world.now) c.requires.held c.args.world.now.sound c.args.token c.requires.unsent

pub send-requires-clause-stepped : goal.send-requires-clause-stepped
unfolding plain_of
send-requires-clause-stepped c = last_stepped c.args.component (plain_of c.args.world.now) c.requires.held c.args.world.now.sound c.args.token c.requires.unsent (to_step c.args.world.now)

pub give_back-requires-clause-may : goal.give_back-requires-clause-may
unfolding plain_of
give_back-requires-clause-may c = sent_may c.args.component (plain_of c.args.world.now) c.requires.held c.args.world.now.sound c.args.token c.requires.unsent (plain_of c.send.new.world) c.send.ensures.sends

pub give_back-requires-clause-stepped : goal.give_back-requires-clause-stepped
unfolding plain_of
give_back-requires-clause-stepped c = sent_stepped c.args.component (plain_of c.args.world.now) c.requires.held c.args.world.now.sound c.args.token c.requires.unsent (plain_of c.send.new.world) c.send.ensures.sends (to_step c.send.new.world)

pub returns : goal.returns
unfolding plain_of
returns c = sent_resumes c.args.component (plain_of c.args.world.now) c.requires.held c.args.world.now.sound c.args.token c.requires.unsent (plain_of c.send.new.world) c.send.ensures.sends (plain_of c.give_back.new.self) c.give_back.ensures.event
