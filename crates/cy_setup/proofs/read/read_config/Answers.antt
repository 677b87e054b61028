use Rattle.std.proofs.lemmas.Result.{err_from_is_err_and}
use Rattle.cy_setup.proofs.AnswersRead.{said_stops, said_answered}
use Rattle.cy_setup.proofs.read.read_config.Goals as goal

pub returns-in_err-config-clause-comes : goal.returns-in_err-config-clause-comes
returns-in_err-config-clause-comes g c =
    let p = err_from_is_err_and c.from_residual.result c.from_residual.ensures.1 in
    rw (p.1, p.2) (said_stops c.args.number c.args.component.now _ _ _ c.in_err-config.ensures.comes)

pub returns-clause-comes : goal.returns-clause-comes
returns-clause-comes g c = said_answered c.args.number c.args.component.now _ _ _ c.in_ok-config.config _ c.in_ok-config.ensures.comes c.with_answers.ensures.comes
