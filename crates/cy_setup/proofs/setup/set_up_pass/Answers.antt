use Rattle.std.proofs.lemmas.Result.{err_from_is_err_and}
use Rattle.cy_msg.specs.Request.{request_of}
use Rattle.cy_setup.proofs.Setting.{pass_stops, pass_starves, pass_read}
use Rattle.cy_setup.proofs.setup.set_up_pass.Goals as goal

pub returns-in_err-recorded-clause-comes : goal.returns-in_err-recorded-clause-comes
returns-in_err-recorded-clause-comes g c =
    let p = err_from_is_err_and c.from_residual.result c.from_residual.ensures.1 in
    rw (p.1, p.2) (pass_stops c.args.from.now c.args.to.now (request_of c.args.request.now) _ _ _ c.in_err-recorded.ensures)

pub returns-in-Ok-clause-comes : goal.returns-in-Ok-clause-comes
returns-in-Ok-clause-comes g c =
    pass_read c.args.from.now c.args.to.now (request_of c.args.request.now) c.in-Ok.configuration c.in_ok-recorded.recorded _ _ _ c.in_ok-recorded.ensures c.in-Ok.ensures.is c.judge.ensures.judged

pub returns-in-Err-clause-comes : goal.returns-in-Err-clause-comes
returns-in-Err-clause-comes g c =
    pass_starves c.args.from.now c.args.to.now (request_of c.args.request.now) c.in_ok-recorded.recorded _ _ c.in-Err.error c.in_ok-recorded.ensures c.in-Err.ensures.only_memory
