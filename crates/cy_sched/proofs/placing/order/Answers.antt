use Rattle.std.proofs.lemmas.Result.{IfOk-weaker}
use Rattle.cy_sched.proofs.Scans.{order_is}
use Rattle.cy_sched.proofs.placing.order.Goals as goal

pub returns : goal.returns
returns c =
    IfOk-weaker c.numbers.result _ _ (λ cs is. order_is c.args.homes.now c.args.context c.in_ok-ranks.ranks.items c.deref.result.now cs.items c.in_ok-ranks.ensures.members
    c.in_ok-ranks.ensures.ranked (rw c.deref.ensures.value c.sort.ensures.permutation) (rw c.deref.ensures.value c.in_ok-sort.ensures.sorted) is) c.numbers.ensures
