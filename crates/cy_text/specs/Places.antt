-- The fields of a text, or its first fault with its line and column.
use Rattle.std.specs.Prelude.{ℕ, ◌+◌, ◌==◌, List, [], ◌∷◌, take, count_by, Result, Ok, Err}
use Rattle.std.specs.Prelude.{if◌then◌else◌}
use Rattle.cy_text.specs.Fields.{Fields}
use Rattle.cy_text.specs.Form.{read_text}
use Rattle.cy_text.specs.declared.fault.Fault.{Fault}
use Rattle.cy_text.specs.declared.fault.Fault.TheVariants as faults
use Rattle.cy_text.specs.declared.error.TextError.{TextError}
use Rattle.cy_text.specs.declared.error.TextError.TheVariants.{Bad, TooDeep}

-- The line of a byte, from 1.
abbrev pub line_of : List ℕ → ℕ → ℕ
line_of text at = count_by (λ byte. byte == 10) (take at text) + 1

-- The column behind bytes that begin at a column.
abbrev pub column_behind : ℕ → List ℕ → ℕ
column_behind column [] = column
column_behind column (byte ∷ bytes) = if byte == 10 then column_behind 1 bytes else column_behind
    (column + 1) bytes

-- The column of a byte, from 1.
abbrev pub column_of : List ℕ → ℕ → ℕ
column_of text at = column_behind 1 (take at text)

abbrev pub error_of : List ℕ → Fault → TextError
error_of text (faults.Bad kind at) = Bad (line_of text at) (column_of text at) kind
error_of text (faults.TooDeep at) = TooDeep (line_of text at) (column_of text at)

abbrev pub with_place : List ℕ → Result Fields Fault → Result Fields TextError
with_place text (Ok fields) = Ok fields
with_place text (Err fault) = Err (error_of text fault)

-- What a text says: its fields, or its first fault. `IsParsed` says the same without the reading.
abbrev pub fields_of_text : List ℕ → Result Fields TextError
fields_of_text text = with_place text (read_text text)
