use Rattle.std.proofs.Common.{◌≡◌, take}
use Rattle.std.specs.Prelude.{map}
use Rattle.cy_answers.specs.Valued.{valued_by}
use Rattle.cy_answers.proofs.valuing.valued_by.Given as goal

abbrev pub invariant-loop-answer : goal.invariant-loop-answer
invariant-loop-answer l = l.valued.items ≡ map (valued_by l.form) (take l.answer-index l.answers)
