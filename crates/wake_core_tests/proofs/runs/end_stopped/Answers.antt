use Rattle.std.proofs.Common.{◌≡◌, ◌∙◌, ap, ◌∷◌, []}
use Rattle.cy_msg.specs.declared.token.Tuple.TheVariants.{One}
use Rattle.cy_comp.specs.declared.state.State.TheVariants.{Finished}
use Rattle.wake_core.specs.WorldCalls.{MayCheck}
use Rattle.wake_core.specs.WorldOf.{plain_of}
use Rattle.wake_core_tests.specs.Groups.{Shows, MayTake, MayGiveBack, after_take, after_back}
use Rattle.wake_core_tests.specs.Runs.{message, stopped_once, HadCalls}
use Rattle.wake_core_tests.proofs.Together.{at, became}
use Rattle.wake_core_tests.proofs.Worked.{stop_taken, hears, stop_heard, heard, ends_then, called_before, stop_ended}
use Rattle.wake_core_tests.proofs.runs.end_stopped.Goals as goal

pub take-requires : goal.take-requires
take-requires c = at MayTake stopped_once c.in_ok-world.world c.in_ok-world.ensures.shown stop_taken

pub check-requires : goal.check-requires
check-requires c =
    let taken = became after_take stopped_once c.in_ok-world.world c.take.new.world c.in_ok-world.ensures.shown c.take.ensures.becomes in
    at (MayCheck 1) (after_take stopped_once) c.take.new.world taken hears

pub give_back-requires : goal.give_back-requires
give_back-requires c =
    let taken = became after_take stopped_once c.in_ok-world.world c.take.new.world c.in_ok-world.ensures.shown c.take.ensures.becomes in
    let checked : Shows stop_heard c.check.new.self = record { plain = heard (plain_of c.take.new.world) (plain_of c.check.new.self) taken.plain c.check.ensures.event; stepped = λ k. ap (λ f. f k) c.check.ensures.steps ∙ taken.stepped k } in
    record { may = at (MayGiveBack Finished) stop_heard c.check.new.self checked ends_then; stepped = checked.stepped }

pub returns-clause-called : goal.returns-clause-called
returns-clause-called c =
    let taken = became after_take stopped_once c.in_ok-world.world c.take.new.world c.in_ok-world.ensures.shown c.take.ensures.becomes in
    let checked : Shows stop_heard c.check.new.self = record { plain = heard (plain_of c.take.new.world) (plain_of c.check.new.self) taken.plain c.check.ensures.event; stepped = λ k. ap (λ f. f k) c.check.ensures.steps ∙ taken.stepped k } in
    let back = became (after_back Finished) stop_heard c.check.new.self c.give_back.new.world checked c.give_back.ensures in
    at (HadCalls ((1, 1, One (message 1)) ∷ []) 2) (after_back Finished stop_heard) c.give_back.new.world back called_before

pub returns-clause-ended : goal.returns-clause-ended
returns-clause-ended c =
    let taken = became after_take stopped_once c.in_ok-world.world c.take.new.world c.in_ok-world.ensures.shown c.take.ensures.becomes in
    let checked : Shows stop_heard c.check.new.self = record { plain = heard (plain_of c.take.new.world) (plain_of c.check.new.self) taken.plain c.check.ensures.event; stepped = λ k. ap (λ f. f k) c.check.ensures.steps ∙ taken.stepped k } in
    let back = became (after_back Finished) stop_heard c.check.new.self c.give_back.new.world checked c.give_back.ensures in
    at (λ w. w.states 0 ≡ Finished) (after_back Finished stop_heard) c.give_back.new.world back stop_ended
