use Rattle.cy_timer.proofs.AllPlayed.{count-none, count-some, spanned-order}
use Rattle.cy_timer.proofs.merging.count_all.Goals as goal

pub count_between-requires-clause-order : goal.count_between-requires-clause-order
count_between-requires-clause-order c = spanned-order c.args.messages.now c.in-Some.begin c.in-Some.end c.in-Some.ensures c.requires.timed

pub returns-in-Some : goal.returns-in-Some
returns-in-Some c =
    count-some c.args.messages.now c.args.timers.now c.in-Some.begin c.in-Some.end c.count_between.result c.in-Some.ensures c.count_between.ensures.count

pub returns-in-None : goal.returns-in-None
returns-in-None c = count-none c.args.messages.now c.args.timers.now c.in-None.ensures
