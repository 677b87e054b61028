-- What holds of every text.
use Rattle.std.specs.Prelude.{ℕ, ◌≡◌, ◌≤◌, List, length, Ok, Err}
use Rattle.cy_text.specs.Fields.{Fields, size_of}
use Rattle.cy_text.specs.FirstFault.{HasFirstFault, HasOneAnswer}
use Rattle.cy_text.specs.Grammar.{IsTextOf, IsTextPrefix, depth_of}
use Rattle.cy_text.specs.Kinds.{Due, IsDue}
use Rattle.cy_text.specs.Places.{error_of, fields_of_text}
use Rattle.cy_text.specs.Printable.{IsPrintable, SameButSpans}
use Rattle.cy_text.specs.Printed.{printed}
use Rattle.cy_text.specs.Spans.{AreInOrder}
use Rattle.cy_text.specs.declared.error.TextError.{TextError}
use Rattle.cy_text.specs.declared.fault.Fault.{Fault}
use Rattle.cy_text.specs.declared.token.Lexeme.{Lexeme}

-- Each text of the form is read to the fields that it says.
abbrev pub FormIsRead : Type 0
FormIsRead = (text : List ℕ) (fields : Fields) → IsTextOf text fields → fields_of_text text
    ≡ Ok fields

-- What is read of a text is the fields that the form has it say.
abbrev pub ReadIsForm : Type 0
ReadIsForm = (text : List ℕ) (fields : Fields) → fields_of_text text ≡ Ok fields
    → IsTextOf text fields

-- A text that is refused is no text of the form.
abbrev pub RefusedIsNoForm : Type 0
RefusedIsNoForm = (text : List ℕ) (error : TextError) → fields_of_text text ≡ Err error
    → (fields : Fields) → IsTextOf text fields → ⊥

-- It is refused at its first fault.
abbrev pub RefusedAtFirstFault : Type 0
RefusedAtFirstFault = (text : List ℕ) (error : TextError) → fields_of_text text ≡ Err error
    → (fault : Fault) × (error ≡ error_of text fault) × HasFirstFault text fault

-- The first fault of a text is the one that is answered.
abbrev pub FirstFaultIsAnswered : Type 0
FirstFaultIsAnswered = (text : List ℕ) (fault : Fault) → HasFirstFault text fault
    → fields_of_text text ≡ Err (error_of text fault)

-- Every text has one tree or one first fault, and never both.
abbrev pub OneTreeOrFault : Type 0
OneTreeOrFault = (text : List ℕ) → HasOneAnswer text

-- Behind every prefix of a text of the form just one thing is due.
abbrev pub OneIsDue : Type 0
OneIsDue = (tokens : List Lexeme) → IsTextPrefix tokens → (due : Due) × IsDue tokens due
    × ((other : Due) → IsDue tokens other → other ≡ due)

-- What was printed is read as the same fields but for where they stand, if messages stand at most
-- 64 deep.
abbrev pub PrintedIsRead : Type 0
PrintedIsRead = (fields : Fields) → IsPrintable fields → depth_of fields ≤ 64 → (others : Fields)
    × (fields_of_text (printed fields) ≡ Ok others) × SameButSpans fields others

-- The fields that are read stand in their order within the text.
abbrev pub SpansAreInOrder : Type 0
SpansAreInOrder = (text : List ℕ) (fields : Fields) → fields_of_text text ≡ Ok fields
    → AreInOrder 0 (length text) fields

-- A text has at most as many fields as bytes, those of messages within them included.
abbrev pub FieldsAreFew : Type 0
FieldsAreFew = (text : List ℕ) (fields : Fields) → fields_of_text text ≡ Ok fields
    → size_of fields ≤ length text
