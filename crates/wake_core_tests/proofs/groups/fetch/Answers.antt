use Rattle.wake_core.specs.WorldOf.{plain_of, to_step}
use Rattle.wake_core_tests.proofs.Hands.{may_fetch, fetched, fetched_answer, fetched_steps}
use Rattle.wake_core_tests.proofs.groups.fetch.Goals as goal

pub fetch-requires : goal.fetch-requires
fetch-requires c = may_fetch (plain_of c.args.world.now) (plain_of c.ask.new.world) c.ask.ensures.plain

pub returns-clause-plain : goal.returns-clause-plain
returns-clause-plain c = fetched (plain_of c.args.world.now) (plain_of c.ask.new.world) c.ask.ensures.plain (plain_of c.fetch.new.self) c.fetch.ensures.event

pub returns-clause-answer : goal.returns-clause-answer
returns-clause-answer c = fetched_answer (plain_of c.args.world.now) (plain_of c.ask.new.world) c.ask.ensures.plain c.fetch.result c.fetch.ensures.answer

pub returns-clause-steps : goal.returns-clause-steps
returns-clause-steps c = fetched_steps (plain_of c.args.world.now) (plain_of c.ask.new.world) c.ask.ensures.plain c.fetch.result (to_step c.args.world.now) (to_step c.ask.new.world) (to_step c.fetch.new.self) c.fetch.ensures.steps
    c.ask.ensures.steps
