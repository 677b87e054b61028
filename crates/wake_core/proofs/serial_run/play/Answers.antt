use Rattle.wake_core.specs.WorldOf.{plain_of, to_step}
use Rattle.wake_core.proofs.Acting.{play_may, play_stepped, play_token, play_known, play_all, play_looked, play_cleared, play_plays}
use Rattle.wake_core.proofs.serial_run.play.Goals as goal

pub tape-requires-clause-event : goal.tape-requires-clause-event
tape-requires-clause-event c = play_may c.args.token.now (plain_of c.args.world.now) (plain_of c.tick.new.self) c.requires.rest c.requires.next c.tick.ensures.event

pub tape-requires-clause-stepped : goal.tape-requires-clause-stepped
tape-requires-clause-stepped c = play_stepped c.args.token.now (plain_of c.args.world.now) (plain_of c.tick.new.self) c.requires.rest c.requires.next c.tick.ensures.event (to_step c.tick.new.self)

pub deliver-requires-clause-token : goal.deliver-requires-clause-token
deliver-requires-clause-token c = play_token c.args.token.now (plain_of c.args.world.now) (plain_of c.tick.new.self) c.requires.rest c.requires.next c.tick.ensures.event (plain_of c.tape.new.self) c.tape.ensures.event

pub deliver-requires-clause-known : goal.deliver-requires-clause-known
unfolding plain_of
deliver-requires-clause-known c = play_known c.args.token.now (plain_of c.args.world.now) (plain_of c.tick.new.self) c.requires.rest c.requires.next c.tick.ensures.event (plain_of c.tape.new.self) c.tape.ensures.event c.tape.new.self.sound

pub deliver-requires-clause-all : goal.deliver-requires-clause-all
deliver-requires-clause-all c = play_all c.args.token.now (plain_of c.args.world.now) (plain_of c.tick.new.self) c.requires.rest c.requires.next c.tick.ensures.event (plain_of c.tape.new.self) c.tape.ensures.event

pub deliver-requires-clause-looked : goal.deliver-requires-clause-looked
deliver-requires-clause-looked c = play_looked c.args.token.now (plain_of c.args.world.now) (plain_of c.tick.new.self) c.requires.rest c.requires.next c.tick.ensures.event (plain_of c.tape.new.self) c.tape.ensures.event

pub deliver-requires-clause-cleared : goal.deliver-requires-clause-cleared
deliver-requires-clause-cleared c = play_cleared c.args.token.now (plain_of c.args.world.now) (plain_of c.tick.new.self) c.requires.rest c.requires.next c.tick.ensures.event (plain_of c.tape.new.self) c.tape.ensures.event

pub returns : goal.returns
returns c = play_plays c.args.token.now (plain_of c.args.world.now) (plain_of c.tick.new.self) c.requires.rest c.requires.next c.tick.ensures.event (plain_of c.tape.new.self) c.tape.ensures.event
    (plain_of c.deliver.new.self) c.deliver.ensures.delivers
