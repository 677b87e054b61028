use Rattle.std.proofs.Common.{◌∙◌, ap}
use Rattle.wake_core.specs.WorldOf.{plain_of}
use Rattle.wake_core.specs.WorldCalls.{in_hand}
use Rattle.wake_core_tests.proofs.Hands.{may_send, may_give_back, sent_on}
use Rattle.wake_core_tests.proofs.groups.send_on.Goals as goal

pub tape-requires-clause-event : goal.tape-requires-clause-event
tape-requires-clause-event c = may_send c.args.token (plain_of c.args.world.now) c.requires.may

pub tape-requires-clause-stepped : goal.tape-requires-clause-stepped
tape-requires-clause-stepped c = λ _ _. c.requires.stepped (in_hand 1 (plain_of c.args.world.now))

pub give_back-requires-clause-may : goal.give_back-requires-clause-may
give_back-requires-clause-may c = may_give_back c.args.token (plain_of c.args.world.now) c.requires.may (plain_of c.tape.new.self) c.tape.ensures.event

pub give_back-requires-clause-stepped : goal.give_back-requires-clause-stepped
give_back-requires-clause-stepped c = λ k. ap (λ f. f k) c.tape.ensures.steps ∙ c.requires.stepped k

pub returns : goal.returns
returns c = record {
  plain = sent_on c.args.token (plain_of c.args.world.now) c.requires.may (plain_of c.tape.new.self) c.tape.ensures.event (plain_of c.give_back.new.world) c.give_back.ensures.plain;
  stepped = λ none. c.give_back.ensures.stepped (λ k. ap (λ f. f k) c.tape.ensures.steps ∙ none k);
}
