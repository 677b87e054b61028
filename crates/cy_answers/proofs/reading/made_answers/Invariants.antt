use Rattle.cy_answers.proofs.Answering.{AreMade}
use Rattle.cy_answers.proofs.reading.made_answers.Given as goal

abbrev pub invariant-loop-place : goal.invariant-loop-place
invariant-loop-place l = AreMade l.fn.recorded l.fn.name l.fn.first l.place l.answers.items
