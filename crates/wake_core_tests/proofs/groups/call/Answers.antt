use Rattle.std.proofs.Common.{◌∙◌}
use Rattle.wake_core.specs.WorldOf.{plain_of, to_step}
use Rattle.wake_core_tests.specs.Groups.{found_then}
use Rattle.wake_core_tests.proofs.Hands.{may_step, all_stepped, none_stepped, found_some, found_none}
use Rattle.wake_core_tests.proofs.groups.call.Goals as goal

pub step-requires : goal.step-requires
step-requires c = may_step (plain_of c.args.world.now) (plain_of c.fetch.new.world) c.in-Some.ensures.plain (to_step c.args.world.now) (to_step c.fetch.new.world) c.in-Some.tuple c.in-Some.ensures.answer c.in-Some.ensures.steps

pub returns-in-Some-clause-becomes : goal.returns-in-Some-clause-becomes
returns-in-Some-clause-becomes c = record {
  plain = c.step.ensures.same ∙ c.in-Some.ensures.plain;
  stepped = all_stepped (plain_of c.args.world.now) (plain_of c.fetch.new.world) c.in-Some.ensures.plain (to_step c.args.world.now) (to_step c.fetch.new.world) c.in-Some.tuple c.in-Some.ensures.answer c.in-Some.ensures.steps
      (to_step c.step.new.self) c.step.ensures.steps;
}

pub returns-in-Some-clause-found : goal.returns-in-Some-clause-found
returns-in-Some-clause-found c = found_some (plain_of c.args.world.now) (plain_of c.fetch.new.world) c.in-Some.ensures.plain (to_step c.args.world.now) (to_step c.fetch.new.world) c.in-Some.tuple c.in-Some.ensures.answer c.in-Some.ensures.steps

pub returns-in-None-clause-becomes : goal.returns-in-None-clause-becomes
returns-in-None-clause-becomes c = record {
  plain = c.in-None.ensures.plain;
  stepped = none_stepped (plain_of c.args.world.now) (plain_of c.fetch.new.world) c.in-None.ensures.plain (to_step c.args.world.now) (to_step c.fetch.new.world) c.in-None.ensures.steps;
}

pub returns-in-None-clause-found : goal.returns-in-None-clause-found
returns-in-None-clause-found c = found_none (found_then (plain_of c.args.world.now)) c.in-None.ensures.answer
