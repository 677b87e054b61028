use Rattle.std.proofs.Common.{◌∙◌, ap}
use Rattle.wake_core.specs.WorldOf.{plain_of, to_step}
use Rattle.wake_core_tests.proofs.Messages.{may_tape, tape_stepped, may_fill, may_look, looked_answer, came}
use Rattle.wake_core_tests.proofs.groups.play.Goals as goal

pub tape-requires-clause-event : goal.tape-requires-clause-event
tape-requires-clause-event c = may_tape c.args.token (plain_of c.args.world.now) (plain_of c.tick.new.self) c.requires c.tick.ensures.event

pub tape-requires-clause-stepped : goal.tape-requires-clause-stepped
tape-requires-clause-stepped c = tape_stepped c.args.token (plain_of c.args.world.now) (plain_of c.tick.new.self) c.requires c.tick.ensures.event (to_step c.tick.new.self)

pub fill-requires : goal.fill-requires
fill-requires c = may_fill c.args.token (plain_of c.args.world.now) (plain_of c.tick.new.self) c.requires c.tick.ensures.event (plain_of c.tape.new.self) c.tape.ensures.event

pub look-requires : goal.look-requires
look-requires c = may_look c.args.token (plain_of c.args.world.now) (plain_of c.tick.new.self) c.requires c.tick.ensures.event (plain_of c.tape.new.self) c.tape.ensures.event (plain_of c.fill.new.self) c.fill.ensures.event

pub returns-clause-becomes : goal.returns-clause-becomes
returns-clause-becomes c = record {
  plain = came c.args.token (plain_of c.args.world.now) (plain_of c.tick.new.self) c.requires c.tick.ensures.event (plain_of c.tape.new.self) c.tape.ensures.event (plain_of c.fill.new.self) c.fill.ensures.event
      (plain_of c.look.new.self) c.look.ensures.event;
  stepped = λ none k. ap (λ f. f k) (c.look.ensures.steps ∙ (c.fill.ensures.steps ∙ (c.tape.ensures.steps ∙ c.tick.ensures.steps))) ∙ none k;
}

pub returns-clause-waits : goal.returns-clause-waits
returns-clause-waits c = looked_answer c.args.token (plain_of c.args.world.now) (plain_of c.tick.new.self) c.requires c.tick.ensures.event (plain_of c.tape.new.self) c.tape.ensures.event (plain_of c.fill.new.self) c.fill.ensures.event
    c.look.result c.look.ensures.answer
