-- The table of a message: the names of the fields that it may hold, and what they may hold.
use Rattle.std.specs.Prelude.{ℕ, pos, negsuc, true, false, List, [], ◌∷◌, Option, Some, None}
use Rattle.std.specs.Prelude.{if◌then◌else◌}
use Rattle.std.specs.Str.{bytes_eq}
use Rattle.cy_config.specs.declared.field.Kind.{Kind}
use Rattle.cy_config.specs.declared.field.Kind.TheVariants.{Whole}
use Rattle.cy_config.specs.declared.field.Field.{Field}

abbrev pub Rows : Type 0 → Type 0
Rows M = List (List ℕ × Field M)

-- A field that counts once, and one that may stand any number of times.
abbrev pub single : {M : Type 0} → Kind M → Field M
single k = record { repeated = false; kind = k }

abbrev pub repeated : {M : Type 0} → Kind M → Field M
repeated k = record { repeated = true; kind = k }

-- A whole number that a u32 holds, and one that an i32 holds.
abbrev pub u32_kind : {M : Type 0} → Kind M
u32_kind = Whole (pos 0) (pos 4294967295)

abbrev pub i32_kind : {M : Type 0} → Kind M
i32_kind = Whole (negsuc 2147483647) (pos 2147483647)

-- The field of a name.
abbrev pub field_in : {M : Type 0} → Rows M → List ℕ → Option (Field M)
field_in [] name = None
field_in (row ∷ rows) name = if bytes_eq name row.0 then Some row.1 else field_in rows name
