use Rattle.std.proofs.Common.{◌∙◌, ap}
use Rattle.wake_core.specs.WorldOf.{plain_of}
use Rattle.wake_core_tests.proofs.Messages.{may_clear, woke}
use Rattle.wake_core_tests.proofs.groups.tell.Goals as goal

pub play-requires : goal.play-requires
play-requires c = c.requires.comes

pub clear-requires : goal.clear-requires
clear-requires c = may_clear c.args.token (plain_of c.args.world.now) (plain_of c.play.new.world) c.requires c.play.ensures.becomes.plain

pub returns : goal.returns
returns c = record {
  plain = woke c.args.token (plain_of c.args.world.now) (plain_of c.play.new.world) c.requires c.play.ensures.becomes.plain (plain_of c.clear.new.self) c.clear.ensures.event;
  stepped = λ none k. ap (λ f. f k) c.clear.ensures.steps ∙ c.play.ensures.becomes.stepped none k;
}
