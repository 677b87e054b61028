use Rattle.cy_answers.proofs.Answering.{AreJudged}
use Rattle.cy_answers.proofs.reading.count_answers.Given as goal

abbrev pub invariant-loop-place : goal.invariant-loop-place
invariant-loop-place l = AreJudged l.fn.recorded l.fn.name l.place l.before l.count
