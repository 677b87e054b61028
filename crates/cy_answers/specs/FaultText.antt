-- How it is told what is wrong with the answers of a component, and whether it is a limit.
use Rattle.std.specs.Prelude.{ℕ, List, ◌++◌, Bool, true, false, codes}
use Rattle.std.specs.Fmt.{decimal}
use Rattle.cy_msg.specs.FaultText.{limit_text}
use Rattle.cy_answers.specs.declared.error.AnswersError.{AnswersError}
use Rattle.cy_answers.specs.declared.error.AnswersError.TheVariants as error

abbrev pub answers_text : AnswersError → List ℕ
answers_text (error.AnswerTwice time) = codes "AnswerTwice " ++ decimal time
answers_text (error.AnswersFall time) = codes "AnswersFall " ++ decimal time
answers_text (error.TooManyAnswers count) = limit_text (codes "TooManyAnswers") count
answers_text error.Memory = codes "out of memory"

abbrev pub is_answers_limit : AnswersError → Bool
is_answers_limit (error.TooManyAnswers count) = true
is_answers_limit _ = false
