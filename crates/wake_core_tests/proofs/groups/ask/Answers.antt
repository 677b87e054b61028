use Rattle.std.proofs.Common.{◌∙◌}
use Rattle.wake_core.specs.WorldOf.{plain_of}
use Rattle.wake_core_tests.proofs.Hands.{may_check, unstopped_answer, may_ask, asked}
use Rattle.wake_core_tests.proofs.groups.ask.Goals as goal

pub check-is_stopped-requires : goal.check-is_stopped-requires
check-is_stopped-requires c = may_check (plain_of c.args.world.now) c.requires

pub ask-requires : goal.ask-requires
ask-requires c = may_ask (plain_of c.args.world.now) c.requires (plain_of c.check-is_stopped.new.self) c.check-is_stopped.ensures.event

pub returns-clause-plain : goal.returns-clause-plain
returns-clause-plain c = asked (plain_of c.args.world.now) c.requires (plain_of c.check-is_stopped.new.self) c.check-is_stopped.ensures.event (plain_of c.ask.new.self) c.ask.ensures.event

pub returns-clause-answer : goal.returns-clause-answer
returns-clause-answer c = unstopped_answer (plain_of c.args.world.now) c.requires c.check-is_stopped.result c.check-is_stopped.ensures.answer

pub returns-clause-steps : goal.returns-clause-steps
returns-clause-steps c = c.ask.ensures.steps ∙ c.check-is_stopped.ensures.steps
