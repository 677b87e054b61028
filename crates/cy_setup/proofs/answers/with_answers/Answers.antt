use Rattle.cy_setup.proofs.AnswersRead.{comes_error}
use Rattle.cy_setup.proofs.answers.with_answers.Goals as goal

pub returns-in-Err-clause-comes : goal.returns-in-Err-clause-comes
returns-in-Err-clause-comes g c = comes_error _ _ _ _ _ _ c.in-Err.error c.in-Err.ensures.comes
