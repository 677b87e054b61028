-- The names of kinds.
use Rattle.std.specs.Prelude.{ℕ, if◌then◌else◌, List, [], ◌∷◌, codes, Option, Some, None}
use Rattle.std.specs.Str.{bytes_eq}
use Rattle.cy_value.specs.declared.kind.ScalarKind.{ScalarKind}
use Rattle.cy_value.specs.declared.kind.ScalarKind.TheVariants.{Int32, Int64, Uint32, Uint64}
use Rattle.cy_value.specs.declared.kind.ScalarKind.TheVariants.{Sint32, Sint64, Fixed32, Fixed64}
use Rattle.cy_value.specs.declared.kind.ScalarKind.TheVariants.{Sfixed32, Sfixed64, Bool, Enum}
use Rattle.cy_value.specs.declared.kind.ScalarKind.TheVariants.{Float, Double}

abbrev pub kind_name : ScalarKind → List ℕ
kind_name Int32 = codes "INT32"
kind_name Int64 = codes "INT64"
kind_name Uint32 = codes "UINT32"
kind_name Uint64 = codes "UINT64"
kind_name Sint32 = codes "SINT32"
kind_name Sint64 = codes "SINT64"
kind_name Fixed32 = codes "FIXED32"
kind_name Fixed64 = codes "FIXED64"
kind_name Sfixed32 = codes "SFIXED32"
kind_name Sfixed64 = codes "SFIXED64"
kind_name Bool = codes "BOOL"
kind_name Enum = codes "ENUM"
kind_name Float = codes "FLOAT"
kind_name Double = codes "DOUBLE"

abbrev pub all_kinds : List ScalarKind
all_kinds =
    Int32 ∷ Int64 ∷ Uint32 ∷ Uint64 ∷ Sint32 ∷ Sint64 ∷ Fixed32 ∷ Fixed64 ∷ Sfixed32 ∷ Sfixed64
    ∷ Bool ∷ Enum ∷ Float ∷ Double ∷ []

-- The kind of a name among some, and among all.
abbrev pub named_among : List ScalarKind → List ℕ → Option ScalarKind
named_among [] name = None
named_among (kind ∷ kinds) name =
    if bytes_eq name (kind_name kind) then Some kind else named_among kinds name

abbrev pub kind_named : List ℕ → Option ScalarKind
kind_named name = named_among all_kinds name
