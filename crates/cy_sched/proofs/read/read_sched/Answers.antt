use Rattle.cy_sched.proofs.Refused.{file_accepted, file_refused}
use Rattle.cy_sched.proofs.read.read_sched.Goals as goal

pub returns-clause-accepted : goal.returns-clause-accepted
returns-clause-accepted c =
    file_accepted c.args.tree.now c.message_or.result.now c.in_ok-unknown.ensures.fits c.message_or.ensures.message c.in_ok-unknown.unknown c.by_policy-sched.result c.in_ok-unknown.ensures.unknown c.by_policy-sched.ensures.accepted

pub returns-clause-refused : goal.returns-clause-refused
returns-clause-refused c = file_refused c.args.tree.now c.message_or.result.now c.in_ok-unknown.ensures.fits c.message_or.ensures.message c.by_policy-sched.result c.by_policy-sched.ensures.refused
