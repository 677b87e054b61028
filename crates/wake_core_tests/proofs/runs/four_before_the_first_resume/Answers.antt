use Rattle.std.proofs.Common.{◌∷◌, [], ap}
use Rattle.cy_msg.specs.declared.token.Tuple.TheVariants.{One}
use Rattle.wake_core.specs.Plain.{Plain}
use Rattle.wake_core.specs.WorldOf.{plain_of}
use Rattle.wake_core.specs.WorldCalls.{MayClose}
use Rattle.wake_core_tests.specs.Groups.{MayTurn, after_turn}
use Rattle.wake_core_tests.specs.Runs.{message, passed_on, four_came, HadCalls}
use Rattle.wake_core_tests.proofs.Together.{at, became}
use Rattle.wake_core_tests.proofs.Worked.{newest_turn, closes, called_on_newest, closed_on}
use Rattle.wake_core_tests.proofs.runs.four_before_the_first_resume.Goals as goal

pub turn-requires : goal.turn-requires
turn-requires c = record {
  may = at (MayTurn (passed_on 4)) four_came c.in_ok-world.world c.in_ok-world.ensures.shown newest_turn;
  stepped = c.in_ok-world.ensures.shown.stepped;
}

pub close-requires-clause-event : goal.close-requires-clause-event
close-requires-clause-event c =
    let turned = became (after_turn (passed_on 4)) four_came c.in_ok-world.world c.turn.new.world c.in_ok-world.ensures.shown c.turn.ensures in
    at MayClose (after_turn (passed_on 4) four_came) c.turn.new.world turned closes

pub returns-clause-called : goal.returns-clause-called
returns-clause-called c =
    let turned = became (after_turn (passed_on 4)) four_came c.in_ok-world.world c.turn.new.world c.in_ok-world.ensures.shown c.turn.ensures in
    closed_on (plain_of c.turn.new.world) (plain_of c.close.new.self) c.close.ensures.event
    (at (HadCalls ((4, 4, One (message 4)) ∷ []) 5) (after_turn (passed_on 4) four_came) c.turn.new.world turned called_on_newest)

pub returns-clause-closing : goal.returns-clause-closing
returns-clause-closing c = ap (λ (w : Plain). w.closing) c.close.ensures.event.effect
