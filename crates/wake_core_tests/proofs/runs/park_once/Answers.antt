use Rattle.wake_core.specs.Plain.{Plain}
use Rattle.cy_comp.specs.declared.state.State.TheVariants.{DataWait}
use Rattle.wake_core_tests.specs.Groups.{MayCome, MayTake, MayAskAgain, MayGiveBack, after_message, after_take, after_fetching, after_back}
use Rattle.wake_core_tests.specs.Runs.{message, parked_once}
use Rattle.wake_core_tests.proofs.Together.{at, became}
use Rattle.wake_core_tests.proofs.Worked.{sum_opened, sum_came, sum_comes, sum_taken, sum_asks, sum_parks}
use Rattle.wake_core_tests.proofs.runs.park_once.Goals as goal

abbrev taken : Plain
taken = after_take sum_came

abbrev asked : Plain
asked = after_fetching taken

pub play-requires : goal.play-requires
play-requires c = at (MayCome (message 1)) sum_opened c.in_ok-world.world c.in_ok-world.ensures.opening sum_comes

pub take-requires : goal.take-requires
take-requires c =
    let first = became (after_message (message 1)) sum_opened c.in_ok-world.world c.play.new.world c.in_ok-world.ensures.opening c.play.ensures.becomes in
    at MayTake sum_came c.play.new.world first sum_taken

pub call-requires : goal.call-requires
call-requires c =
    let first = became (after_message (message 1)) sum_opened c.in_ok-world.world c.play.new.world c.in_ok-world.ensures.opening c.play.ensures.becomes in
    let second = became after_take sum_came c.play.new.world c.take.new.world first c.take.ensures.becomes in
    at MayAskAgain taken c.take.new.world second sum_asks

pub give_back-requires : goal.give_back-requires
give_back-requires c =
    let first = became (after_message (message 1)) sum_opened c.in_ok-world.world c.play.new.world c.in_ok-world.ensures.opening c.play.ensures.becomes in
    let second = became after_take sum_came c.play.new.world c.take.new.world first c.take.ensures.becomes in
    let third = became after_fetching taken c.take.new.world c.call.new.world second c.call.ensures.becomes in
    record { may = at (MayGiveBack DataWait) asked c.call.new.world third sum_parks; stepped = third.stepped }

pub returns-clause-shown : goal.returns-clause-shown
unfolding parked_once
returns-clause-shown c =
    let first = became (after_message (message 1)) sum_opened c.in_ok-world.world c.play.new.world c.in_ok-world.ensures.opening c.play.ensures.becomes in
    let second = became after_take sum_came c.play.new.world c.take.new.world first c.take.ensures.becomes in
    let third = became after_fetching taken c.take.new.world c.call.new.world second c.call.ensures.becomes in
    became (after_back DataWait) asked c.call.new.world c.give_back.new.world third c.give_back.ensures
