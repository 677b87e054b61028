-- What a call answers, held against what is due: a value or an error that the bytes, the text or
-- the file given to it determine. A view leaves out of the answered value what isn't part of that,
-- such as where bytes lie in memory.
use Rattle.std.specs.Prelude.{◌≡◌, ◌⊎◌, Option, Some, None, Result, Ok, Err}

-- Exactly what is due is answered.
abbrev pub Answers : {A B E : Type 0} → (A → B) → Result A E → Result B E → Type 0
Answers view (Ok value) due = due ≡ Ok (view value)
Answers view (Err error) due = due ≡ Err error

-- Exactly that, or else the want of memory, which is this error and says nothing of what is due.
abbrev pub AnswersOr : {A B E : Type 0} → E → (A → B) → Result A E → Result B E → Type 0
AnswersOr memory view (Ok value) due = due ≡ Ok (view value)
AnswersOr memory view (Err error) due = (error ≡ memory) ⊎ (due ≡ Err error)

-- What is due is this fault. None is the want of memory, and says nothing of what is due.
abbrev pub FailsWith : {B F : Type 0} → Option F → Result B F → Type 0
FailsWith None due = Unit {0}
FailsWith (Some fault) due = due ≡ Err fault

-- As `AnswersOr`, where errors wrap the faults that may be due: a function takes the fault out of
-- an error, and none out of the want of memory.
abbrev pub AnswersFault : {A B E F : Type 0} → (E → Option F) → (A → B) → Result A E → Result B F
    → Type 0
AnswersFault fault_in view (Ok value) due = due ≡ Ok (view value)
AnswersFault fault_in view (Err error) due = FailsWith (fault_in error) due
