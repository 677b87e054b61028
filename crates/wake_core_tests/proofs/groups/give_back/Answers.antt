use Rattle.std.proofs.Common.{◌∙◌, ap}
use Rattle.wake_core.specs.WorldOf.{plain_of}
use Rattle.wake_core.specs.WorldCalls.{in_hand}
use Rattle.wake_core_tests.proofs.Hands.{may_yield, may_release, gave_back}
use Rattle.wake_core_tests.proofs.groups.give_back.Goals as goal

pub yield_as-requires-clause-event : goal.yield_as-requires-clause-event
yield_as-requires-clause-event c = may_yield c.args.state (plain_of c.args.world.now) c.requires.may

pub yield_as-requires-clause-stepped : goal.yield_as-requires-clause-stepped
yield_as-requires-clause-stepped c = λ _. c.requires.stepped (in_hand 1 (plain_of c.args.world.now))

pub release-requires : goal.release-requires
release-requires c = may_release c.args.state (plain_of c.args.world.now) c.requires.may (plain_of c.yield_as.new.self) c.yield_as.ensures.event

pub returns : goal.returns
returns c = record {
  plain = gave_back c.args.state (plain_of c.args.world.now) c.requires.may (plain_of c.yield_as.new.self) c.yield_as.ensures.event (plain_of c.release.new.self) c.release.ensures.event;
  stepped = λ none k. ap (λ f. f k) (c.release.ensures.steps ∙ c.yield_as.ensures.steps) ∙ none k;
}
