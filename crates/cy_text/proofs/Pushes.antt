-- One more entry is one more field.
use Rattle.std.proofs.Common.{◌≡◌, List, [], ◌∷◌, ◌++◌, refl}
use Rattle.cy_text.specs.Fields.{Fields, Nothing, And}
use Rattle.cy_text.specs.Entries.{and_entries, fields_of, held_of}
use Rattle.cy_text.specs.declared.tree.Entry.{Entry}

and_entries-push : (fields : Fields) (es : List Entry) (e : Entry) → and_entries fields (es ++ e ∷ []) ≡ And (and_entries fields es) e.name e.span (held_of e.value)
and_entries-push fields [] e = refl
and_entries-push fields (first ∷ es) e = and_entries-push (And fields first.name first.span (held_of first.value)) es e

pub fields_of_push : (es : List Entry) (e : Entry) → fields_of (es ++ e ∷ []) ≡ And (fields_of es) e.name e.span (held_of e.value)
fields_of_push es e = and_entries-push Nothing es e
