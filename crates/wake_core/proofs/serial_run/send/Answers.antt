use Rattle.wake_core.specs.WorldOf.{plain_of}
use Rattle.wake_core.proofs.Acting.{send_may, send_token, send_known, send_all, send_looked, send_cleared, send_delivered}
use Rattle.wake_core.proofs.serial_run.send.Goals as goal

pub tape-requires-clause-event : goal.tape-requires-clause-event
unfolding plain_of
tape-requires-clause-event c = send_may c.args.token (plain_of c.args.world.now) c.requires.may c.args.world.now.sound

pub deliver-requires-clause-token : goal.deliver-requires-clause-token
unfolding plain_of
deliver-requires-clause-token c = send_token c.args.token (plain_of c.args.world.now) c.requires.may c.args.world.now.sound (plain_of c.tape.new.self) c.tape.ensures.event

pub deliver-requires-clause-known : goal.deliver-requires-clause-known
unfolding plain_of
deliver-requires-clause-known c = send_known c.args.token (plain_of c.args.world.now) c.requires.may c.args.world.now.sound (plain_of c.tape.new.self) c.tape.ensures.event c.tape.new.self.sound

pub deliver-requires-clause-all : goal.deliver-requires-clause-all
unfolding plain_of
deliver-requires-clause-all c = send_all c.args.token (plain_of c.args.world.now) c.requires.may c.args.world.now.sound (plain_of c.tape.new.self) c.tape.ensures.event

pub deliver-requires-clause-looked : goal.deliver-requires-clause-looked
unfolding plain_of
deliver-requires-clause-looked c = send_looked c.args.token (plain_of c.args.world.now) c.requires.may c.args.world.now.sound (plain_of c.tape.new.self) c.tape.ensures.event

pub deliver-requires-clause-cleared : goal.deliver-requires-clause-cleared
unfolding plain_of
deliver-requires-clause-cleared c = send_cleared c.args.token (plain_of c.args.world.now) c.requires.may c.args.world.now.sound (plain_of c.tape.new.self) c.tape.ensures.event

pub returns-clause-sends : goal.returns-clause-sends
unfolding plain_of
returns-clause-sends c = send_delivered c.args.token (plain_of c.args.world.now) c.requires.may c.args.world.now.sound (plain_of c.tape.new.self) c.tape.ensures.event
    (plain_of c.deliver.new.self) c.deliver.ensures.delivers
