-- The value of a content, by the numbers of the fields that it is in and the kind of its own.
use Rattle.std.specs.Prelude.{ℕ, ℤ, ◌==◌, if◌then◌else◌, List, [], ◌∷◌, Option, None}
use Rattle.std.specs.Prelude.{option_and_then, Result, Ok, Err}
use Rattle.std.specs.List.{filter_map, last_or}
use Rattle.cy_wire.specs.declared.error.WireError.{WireError}
use Rattle.cy_wire.specs.Field.{WireField, fields_of, unless_fault}
use Rattle.cy_wire.specs.Message.{span_in}
use Rattle.cy_value.specs.Scalar.{bits_in, number_of}
use Rattle.cy_value.specs.declared.form.ValueForm.{ValueForm}
use Rattle.cy_value.specs.declared.kind.ScalarKind.{ScalarKind}

-- Of what fields hold, the last counts; bytes that are no sequence of fields have a fault.
unfoldable pub read_last : {A : Type 0} → (WireField → Option A) → List ℕ
    → Result (Option A) WireError
read_last held content = let all = fields_of 0 content in
    unless_fault all.fault (last_or None (filter_map held all.fields))

-- Nothing counts of bytes with a fault.
abbrev pub if_read : {A : Type 0} → Result (Option A) WireError → Option A
if_read (Ok found) = found
if_read (Err fault) = None

abbrev pub last_of : {A : Type 0} → (WireField → Option A) → List ℕ → Option A
last_of held content = if_read (read_last held content)

-- The bits in a field of a number and a kind. Fields of the number that are written as those of
-- other kinds are passed over.
abbrev pub bits_under : ℕ → ScalarKind → WireField → Option ℕ
bits_under number kind field =
    if field.number == number then bits_in kind field.value else None

-- The value along a path: each number but the last one leads into a message, and the last one has
-- the value.
abbrev pub value_along : ScalarKind → (scale : ℕ) → (path : List ℕ) → List ℕ → Option ℤ
value_along kind scale [] content = None
value_along kind scale (number ∷ []) content =
    option_and_then (λ bits. number_of kind scale bits) (last_of (bits_under number kind) content)
value_along kind scale (number ∷ next ∷ rest) content =
    option_and_then (λ span. value_along kind scale (next ∷ rest) span.bytes)
    (last_of (span_in number) content)

-- The value of a content by a form.
abbrev pub value_in : ValueForm → List ℕ → Option ℤ
value_in form content = value_along form.kind form.scale form.path content
