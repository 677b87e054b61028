-- A message within some fields is smaller than they are.
use Rattle.std.specs.Prelude.{◌≤◌, ◌+◌, max, List, [], ◌∷◌}
use Rattle.std.proofs.Common.{arith}
use denote.Param.Weighed.{most}
use Rattle.cy_text.specs.Fields.{Fields, Nothing, And, size_of, size_held}
use Rattle.cy_text.specs.Entries.{and_entries, fields_of, held_of}
use Rattle.cy_text.specs.declared.tree.Entry.{Entry}
use Rattle.cy_text.specs.declared.tree.Value.{Value}
use Rattle.cy_text.specs.declared.tree.Value.TheVariants.{Whole, Literal, Word, Quote, Message}
use Rattle.cy_text.specs.declared.tree.Tree.TheDeep.{deep-Entry, deep-Value}

pub more_entries : (fields : Fields) (es : List Entry) → size_of fields
    ≤ size_of (and_entries fields es)
more_entries fields [] = omega arith
more_entries fields (e ∷ es) = omega
    (arith, more_entries (And fields e.name e.span (held_of e.value)) es)

pub value_falls : (v : Value) → deep-Value v ≤ size_held (held_of v) + 1
value_falls (Whole negative size) = omega arith
value_falls (Literal text) = omega arith
value_falls (Word negative text) = omega arith
value_falls (Quote bytes) = omega arith
value_falls (Message fields) = omega arith

pub entry_falls : (e : Entry) → deep-Entry e ≤ size_held (held_of e.value) + 1
entry_falls e = omega (arith, value_falls e.value)

pub entries_fall : (fields : Fields) (es : List Entry) → most deep-Entry es
    ≤ size_of (and_entries fields es)
entries_fall fields [] = omega arith
entries_fall fields (e ∷ es) =
    omega (
      arith,
      entry_falls e,
      more_entries (And fields e.name e.span (held_of e.value)) es,
      entries_fall (And fields e.name e.span (held_of e.value)) es,
    )

pub tree_falls : (es : List Entry) → max (most deep-Entry es) 0 ≤ size_of (fields_of es)
tree_falls es = omega (arith, entries_fall Nothing es)
