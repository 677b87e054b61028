-- Answers with the values that their contents have by a form.
use Rattle.std.specs.Prelude.{List, map, Option, Some, None}
use Rattle.cy_value.specs.Value.{value_in}
use Rattle.cy_value.specs.declared.form.ValueForm.{ValueForm}
use Rattle.cy_comp.specs.declared.answers.Answer.{Answer}

-- An answer with the value of its content by a form.
abbrev pub valued_by : ValueForm → Answer → Answer
valued_by form a = record a { whole = value_in form a.content }

-- Answers by the form of their channel. Without one they stay as they are.
abbrev pub valued : Option ValueForm → List Answer → List Answer
valued None answers = answers
valued (Some form) answers = map (valued_by form) answers
