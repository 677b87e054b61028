use Rattle.std.proofs.Common.{◌∷◌, []}
use Rattle.cy_msg.specs.declared.token.Tuple.TheVariants.{One}
use Rattle.wake_core_tests.specs.Groups.{MayTakeWoken, MayAskAgain, after_wake, after_fetching}
use Rattle.wake_core_tests.specs.Runs.{message, parked_too_late, HadCalls}
use Rattle.wake_core_tests.proofs.Together.{at, became}
use Rattle.wake_core_tests.proofs.Worked.{is_woken, asks_again, called_after_race}
use Rattle.wake_core_tests.proofs.runs.park_race.Goals as goal

pub take_woken-requires : goal.take_woken-requires
take_woken-requires c = at MayTakeWoken parked_too_late c.park_too_late.new.world c.park_too_late.ensures is_woken

pub call-requires : goal.call-requires
call-requires c =
    let first = became after_wake parked_too_late c.park_too_late.new.world c.take_woken.new.world c.park_too_late.ensures c.take_woken.ensures in
    at MayAskAgain (after_wake parked_too_late) c.take_woken.new.world first asks_again

pub returns-clause-called : goal.returns-clause-called
returns-clause-called c =
    let first = became after_wake parked_too_late c.park_too_late.new.world c.take_woken.new.world c.park_too_late.ensures c.take_woken.ensures in
    let second = became after_fetching (after_wake parked_too_late) c.take_woken.new.world c.call.new.world first c.call.ensures.becomes in
    at (HadCalls ((1, 1, One (message 1)) ∷ (2, 2, One (message 2)) ∷ []) 3) (after_fetching (after_wake parked_too_late)) c.call.new.world second called_after_race
