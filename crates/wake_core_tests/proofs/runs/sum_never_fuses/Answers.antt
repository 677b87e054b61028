use Rattle.std.proofs.Common.{◌≡◌, []}
use Rattle.wake_core.specs.Plain.{Plain}
use Rattle.cy_comp.specs.declared.state.State.TheVariants.{DataWait}
use Rattle.wake_core_tests.specs.Groups.{MayTell, MayTakeWoken, MayAskAgain, MayGiveBack, after_news, after_wake, after_fetching, after_back}
use Rattle.wake_core_tests.specs.Runs.{message, parked_once, HadCalls}
use Rattle.wake_core_tests.proofs.Together.{at, became}
use Rattle.wake_core_tests.proofs.Worked.{sum_again, sum_wakes, sum_woken, sum_asks_again, sum_parks_again, sum_never_called, sum_waits}
use Rattle.wake_core_tests.proofs.runs.sum_never_fuses.Goals as goal

abbrev told : Plain
told = after_news (message 2) parked_once

abbrev asked : Plain
asked = after_fetching sum_again

pub tell-requires : goal.tell-requires
tell-requires c = at (MayTell (message 2)) parked_once c.in_ok-world.world c.in_ok-world.ensures.shown sum_wakes

pub take_woken-requires : goal.take_woken-requires
take_woken-requires c =
    let first = became (after_news (message 2)) parked_once c.in_ok-world.world c.tell.new.world c.in_ok-world.ensures.shown c.tell.ensures in
    at MayTakeWoken told c.tell.new.world first sum_woken

pub call-requires : goal.call-requires
call-requires c =
    let first = became (after_news (message 2)) parked_once c.in_ok-world.world c.tell.new.world c.in_ok-world.ensures.shown c.tell.ensures in
    let second = became after_wake told c.tell.new.world c.take_woken.new.world first c.take_woken.ensures in
    at MayAskAgain sum_again c.take_woken.new.world second sum_asks_again

pub give_back-requires : goal.give_back-requires
give_back-requires c =
    let first = became (after_news (message 2)) parked_once c.in_ok-world.world c.tell.new.world c.in_ok-world.ensures.shown c.tell.ensures in
    let second = became after_wake told c.tell.new.world c.take_woken.new.world first c.take_woken.ensures in
    let third = became after_fetching sum_again c.take_woken.new.world c.call.new.world second c.call.ensures.becomes in
    record { may = at (MayGiveBack DataWait) asked c.call.new.world third sum_parks_again; stepped = third.stepped }

pub returns-clause-called : goal.returns-clause-called
returns-clause-called c =
    let first = became (after_news (message 2)) parked_once c.in_ok-world.world c.tell.new.world c.in_ok-world.ensures.shown c.tell.ensures in
    let second = became after_wake told c.tell.new.world c.take_woken.new.world first c.take_woken.ensures in
    let third = became after_fetching sum_again c.take_woken.new.world c.call.new.world second c.call.ensures.becomes in
    let last = became (after_back DataWait) asked c.call.new.world c.give_back.new.world third c.give_back.ensures in
    at (HadCalls [] 0) (after_back DataWait asked) c.give_back.new.world last sum_never_called

pub returns-clause-parked : goal.returns-clause-parked
returns-clause-parked c =
    let first = became (after_news (message 2)) parked_once c.in_ok-world.world c.tell.new.world c.in_ok-world.ensures.shown c.tell.ensures in
    let second = became after_wake told c.tell.new.world c.take_woken.new.world first c.take_woken.ensures in
    let third = became after_fetching sum_again c.take_woken.new.world c.call.new.world second c.call.ensures.becomes in
    let last = became (after_back DataWait) asked c.call.new.world c.give_back.new.world third c.give_back.ensures in
    at (λ w. w.states 0 ≡ DataWait) (after_back DataWait asked) c.give_back.new.world last sum_waits
