use Rattle.std.proofs.lemmas.Result.{err_from_is_err_and}
use Rattle.cy_dag.proofs.ClassSteps.{options_due}
use Rattle.cy_dag.proofs.config.values.Goals as goal

pub returns-in_err-options-clause-refused : goal.returns-in_err-options-clause-refused
returns-in_err-options-clause-refused c =
    let p = err_from_is_err_and c.from_residual-in_err-options.result c.from_residual-in_err-options.ensures.1 in
    rw (p.1, p.2) (options_due c.args.component c.args.class c.args.tree.now c.in_err-options.field-0.0 c.text_under.result c.in_ok-overflow.overflow c.is_none.result c.text_under.ensures c.is_none.ensures c.if-is_none.false
    c.in_ok-overflow.ensures.overflow c.in_ok-kind.ensures.accepted c.in_err-options.ensures.refused)
