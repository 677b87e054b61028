use Rattle.std.proofs.Common.{length, arith, refl}
use Rattle.std.specs.Prelude.{sum_by}
use Rattle.std.proofs.lemmas.Result.{MatchResult-weaker}
use Rattle.cy_timer.specs.Ticks.{ticks_between}
use Rattle.cy_timer.proofs.AllPlayed.{count-some, during-none, during-ticks, during-timed, spanned-order}
use Rattle.cy_timer.proofs.merging.during.Goals as goal

pub between-requires-clause-order : goal.between-requires-clause-order
between-requires-clause-order c = spanned-order c.args.messages.now c.in-Some.begin c.in-Some.end c.in-Some.ensures c.requires.timed

pub between-requires-clause-few : goal.between-requires-clause-few
between-requires-clause-few c =
    let whole = count-some c.args.messages.now c.args.timers.now c.in-Some.begin c.in-Some.end (sum_by (λ t. length (ticks_between c.in-Some.begin c.in-Some.end t)) c.args.timers.now) c.in-Some.ensures refl in
    let few = c.requires.few in
    omega (arith, whole, few)

pub returns-in-Some-clause-ticks : goal.returns-in-Some-clause-ticks
returns-in-Some-clause-ticks c =
    MatchResult-weaker c.between.result c.between.ensures (λ ts made. during-ticks c.args.messages.now c.args.timers.now c.in-Some.begin c.in-Some.end ts.items c.in-Some.ensures made) (λ e h. h)

pub returns-in-Some-clause-timed : goal.returns-in-Some-clause-timed
returns-in-Some-clause-timed c =
    MatchResult-weaker c.between.result c.between.ensures
    (λ ts made. during-timed c.args.messages.now c.args.timers.now c.in-Some.begin c.in-Some.end ts.items c.requires.timed c.requires.timers c.in-Some.ensures made) (λ e h. h)

pub returns-in-None-clause-ticks : goal.returns-in-None-clause-ticks
returns-in-None-clause-ticks c = during-none c.args.messages.now c.args.timers.now c.new.result.items c.in-None.ensures c.new.ensures.items
