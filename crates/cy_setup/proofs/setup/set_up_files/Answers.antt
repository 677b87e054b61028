use Rattle.std.proofs.Common.{option_map}
use Rattle.std.proofs.lemmas.Result.{err_from_is_err_and}
use Rattle.cy_msg.specs.Request.{request_of}
use Rattle.cy_setup.proofs.Setting.{configuration_stops, record_stops, all_read}
use Rattle.cy_setup.proofs.setup.set_up_files.Goals as goal

pub returns-in_err-configuration-clause-comes : goal.returns-in_err-configuration-clause-comes
returns-in_err-configuration-clause-comes g c =
    let p = err_from_is_err_and c.from_residual.result c.from_residual.ensures.1 in
    rw (p.1, p.2) (configuration_stops c.args.dag.now (option_map (λ n. n.now) c.args.sched) (request_of c.args.request.now) _ _ _ c.in_err-configuration.ensures.comes)

pub returns-in-Ok-clause-comes : goal.returns-in-Ok-clause-comes
returns-in-Ok-clause-comes g c =
    all_read c.args.dag.now (option_map (λ n. n.now) c.args.sched) (request_of c.args.request.now) c.in_ok-configuration.configuration c.in-Ok.recorded _ _ _ _ c.in_ok-configuration.ensures.comes c.in-Ok.ensures c.judge.ensures.judged

pub returns-in-Err-clause-comes : goal.returns-in-Err-clause-comes
returns-in-Err-clause-comes g c =
    record_stops c.args.dag.now (option_map (λ n. n.now) c.args.sched) (request_of c.args.request.now) c.in_ok-configuration.configuration _ _ _ c.in-Err.error c.in_ok-configuration.ensures.comes c.in-Err.ensures
