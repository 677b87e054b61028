-- The fields that entries stand for.
use Rattle.std.specs.Prelude.{List, [], ◌∷◌}
use Rattle.cy_text.specs.Fields.{Fields, Held, Nothing, And}
use Rattle.cy_text.specs.Fields as shape
use Rattle.cy_text.specs.declared.tree.Entry.{Entry}
use Rattle.cy_text.specs.declared.tree.Value.{Value}
use Rattle.cy_text.specs.declared.tree.Value.TheVariants.{Whole, Literal, Word, Quote, Message}

abbrev pub held_of : Value → Held
held_of (Whole negative size) = shape.Whole negative size
held_of (Literal text) = shape.Literal text
held_of (Word negative text) = shape.Word negative text
held_of (Quote bytes) = shape.Quote bytes
held_of (Message fields) = shape.Message fields

abbrev pub and_entries : Fields → List Entry → Fields
and_entries fields [] = fields
and_entries fields (e ∷ es) = and_entries (And fields e.name e.span (held_of e.value)) es

abbrev pub fields_of : List Entry → Fields
fields_of es = and_entries Nothing es
