use Rattle.wake_core.specs.WorldOf.{plain_of, to_step}
use Rattle.wake_core.proofs.Acting.{held_may, held_stepped, sent_may, sent_stepped, held_back_resumes}
use Rattle.wake_core.proofs.serial_run.send_held.Goals as goal

pub send-requires-clause-may : goal.send-requires-clause-may
send-requires-clause-may c = held_may c.args.component c.args.token (plain_of c.args.world.now) c.requires.held c.requires.ready c.requires.unstopped c.requires.unsent

pub send-requires-clause-stepped : goal.send-requires-clause-stepped
send-requires-clause-stepped c = held_stepped c.args.component c.args.token (plain_of c.args.world.now) c.requires.held c.requires.ready c.requires.unstopped c.requires.unsent (to_step c.args.world.now)

pub give_back-requires-clause-may : goal.give_back-requires-clause-may
give_back-requires-clause-may c = sent_may c.args.component c.args.token (plain_of c.args.world.now) c.requires.held c.requires.ready c.requires.unstopped c.requires.unsent (plain_of c.send.new.world) c.send.ensures.sends

pub give_back-requires-clause-stepped : goal.give_back-requires-clause-stepped
give_back-requires-clause-stepped c = sent_stepped c.args.component c.args.token (plain_of c.args.world.now) c.requires.held c.requires.ready c.requires.unstopped c.requires.unsent (plain_of c.send.new.world) c.send.ensures.sends
    (to_step c.send.new.world)

pub returns : goal.returns
unfolding plain_of
returns c = held_back_resumes c.args.component c.args.token (plain_of c.args.world.now) c.requires.held c.requires.ready c.requires.unstopped c.requires.unsent (plain_of c.send.new.world) c.send.ensures.sends
    (plain_of c.give_back.new.self) c.args.world.now.sound c.give_back.ensures.event
