use Rattle.wake_core_tests.specs.Groups.{MayCome, MayTurn, MayTake, after_message, after_turn, after_take}
use Rattle.wake_core_tests.specs.Runs.{message, passed_on, called_once}
use Rattle.wake_core_tests.proofs.Together.{at, became}
use Rattle.wake_core_tests.proofs.Worked.{one_opened, one_came, one_passed_on, first_comes, first_turn, taken_again}
use Rattle.wake_core_tests.proofs.runs.call_once.Goals as goal

pub play-requires : goal.play-requires
play-requires c = at (MayCome (message 1)) one_opened c.in_ok-world.world c.in_ok-world.ensures.opening first_comes

pub turn-requires : goal.turn-requires
turn-requires c =
    let first = became (after_message (message 1)) one_opened c.in_ok-world.world c.play.new.world c.in_ok-world.ensures.opening c.play.ensures.becomes in
    record { may = at (MayTurn (passed_on 1)) one_came c.play.new.world first first_turn; stepped = first.stepped }

pub take-requires : goal.take-requires
take-requires c =
    let first = became (after_message (message 1)) one_opened c.in_ok-world.world c.play.new.world c.in_ok-world.ensures.opening c.play.ensures.becomes in
    let second = became (after_turn (passed_on 1)) one_came c.play.new.world c.turn.new.world first c.turn.ensures in
    at MayTake one_passed_on c.turn.new.world second taken_again

pub returns-clause-shown : goal.returns-clause-shown
unfolding called_once
returns-clause-shown c =
    let first = became (after_message (message 1)) one_opened c.in_ok-world.world c.play.new.world c.in_ok-world.ensures.opening c.play.ensures.becomes in
    let second = became (after_turn (passed_on 1)) one_came c.play.new.world c.turn.new.world first c.turn.ensures in
    became after_take one_passed_on c.turn.new.world c.take.new.world second c.take.ensures.becomes
