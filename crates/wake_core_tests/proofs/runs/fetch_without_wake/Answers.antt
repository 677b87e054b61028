use Rattle.std.proofs.Common.{◌∷◌, []}
use Rattle.cy_msg.specs.declared.token.Tuple.TheVariants.{One}
use Rattle.wake_core_tests.specs.Groups.{MayCome, MayAskAgain, after_message, after_fetching}
use Rattle.wake_core_tests.specs.Runs.{message, called_once, HadCalls}
use Rattle.wake_core_tests.proofs.Together.{at, became}
use Rattle.wake_core_tests.proofs.Worked.{second_comes, asks_in_time, called_in_time}
use Rattle.wake_core_tests.proofs.runs.fetch_without_wake.Goals as goal

pub play-requires : goal.play-requires
play-requires c = at (MayCome (message 2)) called_once c.in_ok-world.world c.in_ok-world.ensures.shown second_comes

pub call-requires : goal.call-requires
call-requires c =
    let first = became (after_message (message 2)) called_once c.in_ok-world.world c.play.new.world c.in_ok-world.ensures.shown c.play.ensures.becomes in
    at MayAskAgain (after_message (message 2) called_once) c.play.new.world first asks_in_time

pub returns-clause-called : goal.returns-clause-called
returns-clause-called c =
    let first = became (after_message (message 2)) called_once c.in_ok-world.world c.play.new.world c.in_ok-world.ensures.shown c.play.ensures.becomes in
    let second = became after_fetching (after_message (message 2) called_once) c.play.new.world c.call.new.world first c.call.ensures.becomes in
    at (HadCalls ((1, 1, One (message 1)) ∷ (2, 2, One (message 2)) ∷ []) 3) (after_fetching (after_message (message 2) called_once)) c.call.new.world second called_in_time
