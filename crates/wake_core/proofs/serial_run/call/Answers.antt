use Rattle.std.proofs.Common.{◌∙◌, ap, ℕ, Option}
use Rattle.cy_msg.specs.declared.token.Tuple.{Tuple}
use Rattle.wake_core.specs.WorldOf.{plain_of, to_step}
use Rattle.wake_core.proofs.Acting.{nothing_may, nothing_stepped, nothing_resumes, some_call, made_called, made_in_hand, made_last}
use Rattle.wake_core.proofs.CalledWorld.{known_stepped}
use Rattle.wake_core.proofs.serial_run.call.Goals as goal

pub follow-requires-clause-held : goal.follow-requires-clause-held
unfolding plain_of
follow-requires-clause-held c = made_in_hand c.args.component c.in-Some.outcome (plain_of c.args.world.now) (plain_of c.call.new.self) c.requires.held c.requires.ready c.requires.unstopped c.args.world.now.sound c.in-Some.ensures.event

pub follow-requires-clause-stepped : goal.follow-requires-clause-stepped
follow-requires-clause-stepped c = ap (λ (f : ℕ → Option Tuple). f c.args.component) c.in-Some.ensures.steps ∙ known_stepped c.args.world.now c.args.component c.requires.held

pub follow-requires-clause-outcome : goal.follow-requires-clause-outcome
unfolding plain_of
follow-requires-clause-outcome c = made_last c.args.component c.in-Some.outcome (plain_of c.args.world.now) (plain_of c.call.new.self) c.requires.held c.requires.ready c.requires.unstopped c.args.world.now.sound c.in-Some.ensures.event

pub give_back-requires-clause-may : goal.give_back-requires-clause-may
give_back-requires-clause-may c = nothing_may c.args.component (plain_of c.args.world.now) (plain_of c.call.new.self) c.requires.held c.requires.unstopped c.in-None.ensures.event

pub give_back-requires-clause-stepped : goal.give_back-requires-clause-stepped
give_back-requires-clause-stepped c = nothing_stepped c.args.component (plain_of c.args.world.now) (plain_of c.call.new.self) c.requires.held c.requires.unstopped c.in-None.ensures.event (to_step c.call.new.self)

pub returns-in-Some : goal.returns-in-Some
unfolding plain_of
returns-in-Some c =
    let x = some_call c.args.component c.in-Some.outcome (plain_of c.args.world.now) (plain_of c.call.new.self) c.requires.held c.requires.ready c.requires.unstopped c.args.world.now.sound c.in-Some.ensures.event in
    c.follow.ensures (plain_of c.args.world.now) x.0
    (made_called c.args.component c.in-Some.outcome (plain_of c.args.world.now) (plain_of c.call.new.self) c.requires.held c.requires.ready c.requires.unstopped c.args.world.now.sound c.in-Some.ensures.event)

pub returns-in-None : goal.returns-in-None
returns-in-None c = nothing_resumes c.args.component (plain_of c.args.world.now) (plain_of c.call.new.self) c.requires.held c.requires.unstopped c.in-None.ensures.event (plain_of c.give_back.new.self) c.give_back.ensures.event
