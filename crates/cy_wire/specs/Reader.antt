-- What a reader of fields answers.
use Rattle.std.specs.Prelude.{◌≡◌, Option, Some, None, Result, Ok, Err}
use Rattle.cy_wire.specs.declared.error.WireError.{WireError}
use Rattle.cy_wire.specs.declared.field.Field.{Field}
use Rattle.cy_wire.specs.Field.{Fields, no_fields, faulty, with_field, seen}

-- The next field was answered, and those behind it are left. Nothing changes at the end, and at a
-- fault, which is answered again from then on.
abbrev pub TakesField : Result (Option Field) WireError → Fields → Fields → Type 0
TakesField (Ok None) old new = (old ≡ no_fields) × (new ≡ old)
TakesField (Ok (Some field)) old new = old ≡ with_field (seen field) new
TakesField (Err fault) old new = (old ≡ faulty fault) × (new ≡ old)
