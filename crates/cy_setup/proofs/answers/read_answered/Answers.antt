use Rattle.std.proofs.Common.{rules, ◌≡◌, Some}
use Rattle.std.proofs.lemmas.Result.{err_from_is_err_and}
use Rattle.cy_setup.specs.AnswersFile.{answers_file}
use Rattle.cy_setup.proofs.AnswersRead.{record_stops, answers_accepted, answers_refused}
use Rattle.cy_setup.proofs.answers.read_answered.Goals as goal

pub returns-in_err-whole-clause-comes : goal.returns-in_err-whole-clause-comes
returns-in_err-whole-clause-comes g c =
    let p = err_from_is_err_and c.from_residual.result c.from_residual.ensures.1 in
    let named : Some c.in-Some.name.now ≡ answers_file c.args.config.now = search rules in
    rw (p.1, p.2) (record_stops c.args.number c.args.config.now c.in-Some.name.now named _ _ _ c.in_err-whole.ensures)
