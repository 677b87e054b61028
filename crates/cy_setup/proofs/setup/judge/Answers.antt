use Rattle.cy_msg.specs.Request.{request_of}
use Rattle.cy_setup.proofs.Setting.{wiring_is, wiring_stops, wiring_then}
use Rattle.cy_setup.proofs.setup.judge.Goals as goal

pub judge_wired-requires-clause-wired : goal.judge_wired-requires-clause-wired
judge_wired-requires-clause-wired c = wiring_is c.args.file.now (request_of c.args.request.now) c.args.configuration c.args.recorded c.in-Ok.wiring c.in-Ok.ensures

pub returns-in-Ok-clause-judged : goal.returns-in-Ok-clause-judged
returns-in-Ok-clause-judged c = wiring_then c.args.file.now (request_of c.args.request.now) c.args.configuration c.args.recorded c.in-Ok.wiring _ c.in-Ok.ensures c.judge_wired.ensures.judged

pub returns-in-Err-clause-judged : goal.returns-in-Err-clause-judged
returns-in-Err-clause-judged c = wiring_stops c.args.file.now (request_of c.args.request.now) c.args.configuration c.args.recorded c.in-Err.error c.in-Err.ensures
