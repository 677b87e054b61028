use Rattle.cy_dag.proofs.read.push_timer.Goals as goal

pub returns-in-Err-clause-refused : goal.returns-in-Err-clause-refused
returns-in-Err-clause-refused c = rw (c.deref.ensures.value, c.in_ok-next.ensures, c.interval_of.ensures) at c.in-Err.ensures.refused

pub returns-clause-accepted : goal.returns-clause-accepted
returns-clause-accepted c = rw (c.deref.ensures.value, c.in_ok-next.ensures, c.interval_of.ensures) at c.in_default.ensures.accepted
