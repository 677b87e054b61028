use Rattle.wake_core_tests.specs.Groups.{MayCome, after_message}
use Rattle.wake_core_tests.specs.Runs.{message, four_came}
use Rattle.wake_core_tests.proofs.Together.{at, became}
use Rattle.wake_core_tests.proofs.Worked.{four_opened, first_of_four, second_of_four, third_of_four, four_first, four_second, four_third, four_fourth}
use Rattle.wake_core_tests.proofs.runs.play_four.Goals as goal

pub play-requires : goal.play-requires
play-requires c = at (MayCome (message 1)) four_opened c.in_ok-world.world c.in_ok-world.ensures.opening four_first

pub play-requires-2 : goal.play-requires-2
play-requires-2 c =
    let first = became (after_message (message 1)) four_opened c.in_ok-world.world c.play.new.world c.in_ok-world.ensures.opening c.play.ensures.becomes in
    at (MayCome (message 2)) first_of_four c.play.new.world first four_second

pub play-requires-3 : goal.play-requires-3
play-requires-3 c =
    let first = became (after_message (message 1)) four_opened c.in_ok-world.world c.play.new.world c.in_ok-world.ensures.opening c.play.ensures.becomes in
    let second = became (after_message (message 2)) first_of_four c.play.new.world c.play-2.new.world first c.play-2.ensures.becomes in
    at (MayCome (message 3)) second_of_four c.play-2.new.world second four_third

pub play-requires-4 : goal.play-requires-4
play-requires-4 c =
    let first = became (after_message (message 1)) four_opened c.in_ok-world.world c.play.new.world c.in_ok-world.ensures.opening c.play.ensures.becomes in
    let second = became (after_message (message 2)) first_of_four c.play.new.world c.play-2.new.world first c.play-2.ensures.becomes in
    let third = became (after_message (message 3)) second_of_four c.play-2.new.world c.play-3.new.world second c.play-3.ensures.becomes in
    at (MayCome (message 4)) third_of_four c.play-3.new.world third four_fourth

pub returns-clause-shown : goal.returns-clause-shown
unfolding four_came
returns-clause-shown c =
    let first = became (after_message (message 1)) four_opened c.in_ok-world.world c.play.new.world c.in_ok-world.ensures.opening c.play.ensures.becomes in
    let second = became (after_message (message 2)) first_of_four c.play.new.world c.play-2.new.world first c.play-2.ensures.becomes in
    let third = became (after_message (message 3)) second_of_four c.play-2.new.world c.play-3.new.world second c.play-3.ensures.becomes in
    became (after_message (message 4)) third_of_four c.play-3.new.world c.play-4.new.world third c.play-4.ensures.becomes
