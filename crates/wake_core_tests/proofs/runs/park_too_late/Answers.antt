use Rattle.wake_core.specs.Plain.{Plain}
use Rattle.cy_comp.specs.declared.state.State.TheVariants.{DataWait}
use Rattle.wake_core_tests.specs.Groups.{MayAskAgain, MayTell, MayGiveBack, after_fetching, after_news, after_back}
use Rattle.wake_core_tests.specs.Runs.{message, called_once, parked_too_late}
use Rattle.wake_core_tests.proofs.Together.{at, became}
use Rattle.wake_core_tests.proofs.Worked.{asks_in_vain, second_wakes, parks}
use Rattle.wake_core_tests.proofs.runs.park_too_late.Goals as goal

abbrev asked : Plain
asked = after_fetching called_once

abbrev woke : Plain
woke = after_news (message 2) asked

pub call-requires : goal.call-requires
call-requires c = at MayAskAgain called_once c.args.world.now c.requires asks_in_vain

pub tell-requires : goal.tell-requires
tell-requires c =
    let first = became after_fetching called_once c.args.world.now c.call.new.world c.requires c.call.ensures.becomes in
    at (MayTell (message 2)) asked c.call.new.world first second_wakes

pub give_back-requires : goal.give_back-requires
give_back-requires c =
    let first = became after_fetching called_once c.args.world.now c.call.new.world c.requires c.call.ensures.becomes in
    let second = became (after_news (message 2)) asked c.call.new.world c.tell.new.world first c.tell.ensures in
    record { may = at (MayGiveBack DataWait) woke c.tell.new.world second parks; stepped = second.stepped }

pub returns : goal.returns
unfolding parked_too_late
returns c =
    let first = became after_fetching called_once c.args.world.now c.call.new.world c.requires c.call.ensures.becomes in
    let second = became (after_news (message 2)) asked c.call.new.world c.tell.new.world first c.tell.ensures in
    became (after_back DataWait) woke c.tell.new.world c.give_back.new.world second c.give_back.ensures
