use Rattle.std.proofs.Common.{◌∙◌, ap}
use Rattle.wake_core.specs.WorldOf.{plain_of}
use Rattle.wake_core_tests.proofs.Hands.{may_ready, woken}
use Rattle.wake_core_tests.proofs.groups.take_woken.Goals as goal

pub take-requires : goal.take-requires
take-requires c = c.requires.takes

pub ready-requires : goal.ready-requires
ready-requires c = may_ready (plain_of c.args.world.now) (plain_of c.take.new.world) c.requires c.take.ensures.becomes.plain

pub returns : goal.returns
returns c = record {
  plain = woken (plain_of c.args.world.now) (plain_of c.take.new.world) c.requires c.take.ensures.becomes.plain (plain_of c.ready.new.self) c.ready.ensures.event;
  stepped = λ none k. ap (λ f. f k) c.ready.ensures.steps ∙ c.take.ensures.becomes.stepped none k;
}
