use Rattle.cy_comp.proofs.Answering.{outcome_answers}
use Rattle.cy_comp.proofs.laws.outcomes_are_answers.Goals as goal

pub returns : goal.returns
returns c = outcome_answers
