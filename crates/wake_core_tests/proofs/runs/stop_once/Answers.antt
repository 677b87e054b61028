use Rattle.std.proofs.Common.{◌∙◌, ap}
use Rattle.wake_core.specs.Plain.{Plain}
use Rattle.wake_core.specs.Events.{after_stop}
use Rattle.wake_core.specs.WorldCalls.{MayStop}
use Rattle.wake_core_tests.specs.Groups.{Shows, MayCome, MayTurn, after_message, after_turn}
use Rattle.wake_core_tests.specs.Runs.{message, passed_on, stopped_once}
use Rattle.wake_core_tests.proofs.Together.{at, became}
use Rattle.wake_core_tests.proofs.Worked.{stop_opened, stop_came, stop_passed_on, stop_first, stop_turn, stops_now, stop_second}
use Rattle.wake_core_tests.proofs.runs.stop_once.Goals as goal

abbrev stop_raised : Plain
stop_raised = after_stop stop_passed_on

pub play-requires : goal.play-requires
play-requires c = at (MayCome (message 1)) stop_opened c.in_ok-world.world c.in_ok-world.ensures.opening stop_first

pub turn-requires : goal.turn-requires
turn-requires c =
    let first = became (after_message (message 1)) stop_opened c.in_ok-world.world c.play.new.world c.in_ok-world.ensures.opening c.play.ensures.becomes in
    record { may = at (MayTurn (passed_on 1)) stop_came c.play.new.world first stop_turn; stepped = first.stepped }

pub stop-requires-clause-event : goal.stop-requires-clause-event
stop-requires-clause-event c =
    let first = became (after_message (message 1)) stop_opened c.in_ok-world.world c.play.new.world c.in_ok-world.ensures.opening c.play.ensures.becomes in
    let second = became (after_turn (passed_on 1)) stop_came c.play.new.world c.turn.new.world first c.turn.ensures in
    at MayStop stop_passed_on c.turn.new.world second stops_now

pub play-requires-2 : goal.play-requires-2
play-requires-2 c =
    let first = became (after_message (message 1)) stop_opened c.in_ok-world.world c.play.new.world c.in_ok-world.ensures.opening c.play.ensures.becomes in
    let second = became (after_turn (passed_on 1)) stop_came c.play.new.world c.turn.new.world first c.turn.ensures in
    let third : Shows stop_raised c.stop.new.self = record { plain = c.stop.ensures.event.effect ∙ ap after_stop second.plain; stepped = λ k. ap (λ f. f k) c.stop.ensures.steps ∙ second.stepped k } in
    at (MayCome (message 2)) stop_raised c.stop.new.self third stop_second

pub returns-clause-shown : goal.returns-clause-shown
unfolding stopped_once
returns-clause-shown c =
    let first = became (after_message (message 1)) stop_opened c.in_ok-world.world c.play.new.world c.in_ok-world.ensures.opening c.play.ensures.becomes in
    let second = became (after_turn (passed_on 1)) stop_came c.play.new.world c.turn.new.world first c.turn.ensures in
    let third : Shows stop_raised c.stop.new.self = record { plain = c.stop.ensures.event.effect ∙ ap after_stop second.plain; stepped = λ k. ap (λ f. f k) c.stop.ensures.steps ∙ second.stepped k } in
    became (after_message (message 2)) stop_raised c.stop.new.self c.play-2.new.world third c.play-2.ensures.becomes
