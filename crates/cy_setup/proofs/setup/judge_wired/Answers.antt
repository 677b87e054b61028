use Rattle.cy_setup.specs.private.Judged.{judged_as}
use Rattle.cy_setup.specs.Setup.{replayed}
use Rattle.cy_setup.proofs.Judging.{judges_ok, judges_same}
use Rattle.cy_setup.proofs.setup.judge_wired.Goals as goal

pub returns-in-Ok-clause-judged : goal.returns-in-Ok-clause-judged
returns-in-Ok-clause-judged c = judges_ok replayed _ _ c.in-Ok.ensures.judged.accepted

pub returns-in-Ok-clause-set_up : goal.returns-in-Ok-clause-set_up
returns-in-Ok-clause-set_up c = c.in-Ok.ensures.set_up

pub returns-in-Err-clause-judged : goal.returns-in-Err-clause-judged
returns-in-Err-clause-judged c = judges_same (judged_as c.args.configuration c.args.recorded c.args.wiring) replayed _ _ c.in-Err.ensures.judged
