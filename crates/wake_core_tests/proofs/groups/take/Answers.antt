use Rattle.std.proofs.Common.{◌∙◌, ap}
use Rattle.wake_core.specs.WorldOf.{plain_of}
use Rattle.wake_core_tests.proofs.Hands.{may_acquire, may_spend, took, took_answer}
use Rattle.wake_core_tests.proofs.groups.take.Goals as goal

pub acquire-requires : goal.acquire-requires
acquire-requires c = may_acquire (plain_of c.args.world.now) c.requires

pub spend-requires : goal.spend-requires
spend-requires c = may_spend (plain_of c.args.world.now) (plain_of c.acquire.new.self) c.requires c.acquire.result c.acquire.ensures.event

pub returns-clause-becomes : goal.returns-clause-becomes
returns-clause-becomes c = record {
  plain = took (plain_of c.args.world.now) (plain_of c.acquire.new.self) c.requires c.acquire.result c.acquire.ensures.event (plain_of c.spend.new.self) c.spend.ensures.event;
  stepped = λ none k. ap (λ f. f k) (c.spend.ensures.steps ∙ c.acquire.ensures.steps) ∙ none k;
}

pub returns-clause-clear : goal.returns-clause-clear
returns-clause-clear c = took_answer (plain_of c.args.world.now) (plain_of c.acquire.new.self) c.requires c.acquire.result c.acquire.ensures.event c.spend.result c.spend.ensures.answer
