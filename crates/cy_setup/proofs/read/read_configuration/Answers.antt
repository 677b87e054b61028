use Rattle.std.proofs.Common.{option_map}
use Rattle.std.proofs.lemmas.Result.{err_from_is_err_and}
use Rattle.cy_setup.proofs.Joined.{dag_stops, configs_stop, configs_read}
use Rattle.cy_setup.proofs.read.read_configuration.Goals as goal

pub returns-in_err-dag-clause-comes : goal.returns-in_err-dag-clause-comes
returns-in_err-dag-clause-comes g c =
    let p = err_from_is_err_and c.from_residual.result c.from_residual.ensures.1 in
    rw (p.1, p.2) (dag_stops c.args.dag.now (option_map (λ n. n.now) c.args.sched) _ _ _ c.in_err-dag.ensures)

pub with_values-requires : goal.with_values-requires
with_values-requires g c = rw c.as_slice.ensures at c.in-Ok.ensures.fit

pub returns-in-Ok-clause-comes : goal.returns-in-Ok-clause-comes
returns-in-Ok-clause-comes g c =
    configs_read c.args.dag.now (option_map (λ n. n.now) c.args.sched) c.in_ok-dag.dag c.in-Ok.configs _ _ _ _ c.in_ok-dag.ensures (rw c.as_slice.ensures at c.in-Ok.ensures.comes) c.with_values.ensures.comes

pub returns-in-Err-clause-comes : goal.returns-in-Err-clause-comes
returns-in-Err-clause-comes g c =
    configs_stop c.args.dag.now (option_map (λ n. n.now) c.args.sched) c.in_ok-dag.dag _ _ _ c.in-Err.error c.in_ok-dag.ensures (rw c.as_slice.ensures at c.in-Err.ensures.comes)
