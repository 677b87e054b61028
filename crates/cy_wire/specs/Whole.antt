-- The value of a content, as the message Whole, { 1 value: sint64 }.
use Rattle.std.specs.Prelude.{ℕ, ℤ, List, Option, None, Result, Ok, Err}
use Rattle.std.specs.Option.{option_map}
use Rattle.cy_wire.specs.declared.error.WireError.{WireError}
use Rattle.cy_wire.specs.Zigzag.{unzigzag}
use Rattle.cy_wire.specs.Field.{fields_of, unless_fault}
use Rattle.cy_wire.specs.Message.{last_number}

-- What was read, where no fault was.
abbrev pub if_read : Result (Option ℕ) WireError → Option ℤ
if_read (Ok number) = option_map unzigzag number
if_read (Err fault) = None

-- The zigzag value of the last field 1 that holds a number. None where the content is no sequence
-- of fields, and where none of them is such a field.
unfoldable pub whole_value : List ℕ → Option ℤ
whole_value content = let all = fields_of 0 content in if_read
    (unless_fault all.fault (last_number 1 all.fields))
