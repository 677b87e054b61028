-- The fields of a component file, what it says, and the first cause for which it is refused.
use Rattle.std.specs.Prelude.{ℕ, ℤ, pos, ◌≡◌, not, List, [], ◌∷◌, map, codes, Option}
use Rattle.std.specs.Prelude.{Some, None, is_none, unwrap_or, option_map, if◌then◌else◌}
use Rattle.std.specs.Str.{bytes_eq}
use Rattle.cy_text.specs.Fields.{Fields, Held, Whole, Literal, Word, Quote, Message}
use Rattle.cy_config.specs.Kinds.{whole_of, is_within}
use Rattle.cy_config.specs.Lookups.{last_under, text_under, whole_under}
use Rattle.cy_config.specs.Checks.{first_misfit, unknown_paths}
use Rattle.cy_config.specs.Refusals.{first_of}
use Rattle.cy_config.specs.Tables.{Rows, single, repeated, field_in}
use Rattle.cy_config.specs.declared.field.Field.{Field}
use Rattle.cy_config.specs.declared.field.Kind.TheVariants as field_kind
use Rattle.cy_fuse.specs.declared.overflow.Overflow.{Overflow}
use Rattle.cy_fuse.specs.declared.overflow.Overflow.TheVariants.{Newest, Oldest}
use Rattle.cy_comp.specs.declared.kind.Kind.{Kind}
use Rattle.cy_dag.specs.Classes.{Parameter, kind_of, parameters_of}
use Rattle.cy_dag.specs.DagFile.{text_in, refuse_if}
use Rattle.cy_dag.specs.Options.{Row, field_among, option_rows, options_in, refusal_among}
use Rattle.cy_dag.specs.declared.class.Class.{Class}
use Rattle.cy_dag.specs.declared.config.Config.{Config}
use Rattle.cy_dag.specs.declared.error.DagError.{DagError}
use Rattle.cy_dag.specs.declared.error.DagError.TheVariants.{Shape, Missing, UnknownClass, NotWhole}
use Rattle.cy_dag.specs.declared.error.DagError.TheVariants.{NotOverflow}
use Rattle.cy_dag.specs.declared.format.ConfigMessage.{ConfigMessage}
use Rattle.cy_dag.specs.declared.format.ConfigMessage.TheVariants as message

-- The overflow that a word names, and that a value does: nothing with a sign does.
abbrev pub overflow_word : List ℕ → Option Overflow
overflow_word text =
    if bytes_eq text (codes "NEWEST") then Some Newest
    else (if bytes_eq text (codes "OLDEST") then Some Oldest else None)

abbrev pub overflow_named : Held → Option Overflow
overflow_named (Whole negative size) = None
overflow_named (Literal text) = None
overflow_named (Word negative text) = if negative then None else overflow_word text
overflow_named (Quote bytes) = None
overflow_named (Message fields) = None

-- Where a component's fetch goes on whose tuple isn't kept any more: the last value of the field
-- names it, and where there is none it is the newest.
abbrev pub overflow_given : Option Held → Option Overflow
overflow_given None = Some Newest
overflow_given (Some held) = overflow_named held

abbrev pub overflow_of : Fields → Option Overflow
overflow_of file = overflow_given (last_under (codes "on_overflow") file)

abbrev pub overflow_refusal : ℕ → Fields → Option DagError
overflow_refusal component file =
    refuse_if (is_none (overflow_of file)) (NotOverflow component)

-- The value of a parameter.
abbrev pub value_of : List ℕ → Fields → ℤ
value_of name file = unwrap_or (whole_under name file) (pos 0)

-- Why a parameter is refused: it isn't there, or it is no whole number from the least to the most
-- that it may be.
abbrev pub given_refusal : ℕ → List ℕ → ℤ → ℤ → Option Held → Option DagError
given_refusal component name least most None = Some (Missing component name)
given_refusal component name least most (Some held) =
    refuse_if (not (is_within least most (whole_of held))) (NotWhole component name)

abbrev pub parameter_refusal : ℕ → List ℕ → ℤ → ℤ → Fields → Option DagError
parameter_refusal component name least most file =
    given_refusal component name least most (last_under name file)

-- The channel that a component writes may not be missing.
abbrev pub out_refusal : ℕ → Fields → Option DagError
out_refusal component file =
    refuse_if (is_none (text_under (codes "out") file)) (Missing component (codes "out"))

-- The fields that the file of each class has.
abbrev pub file_rows : List Row
file_rows =
    record { name = codes "out"; field = single field_kind.Text; refusal = out_refusal }
    ∷ record {
      name = codes "on_overflow";
      field = single field_kind.Anything;
      refusal = overflow_refusal;
    }
    ∷ []

-- The parameters of a class.
abbrev pub parameter_row : Parameter → Row
parameter_row p = record {
  name = p.name;
  field = single field_kind.Anything;
  refusal = λ component file. parameter_refusal component p.name p.least p.most file;
}

abbrev pub parameter_rows : Class → List Row
parameter_rows c = map parameter_row (parameters_of c)

-- All fields of a file of a class, in the order in which they are judged.
abbrev pub tables_of : Class → List (List Row)
tables_of c = file_rows ∷ parameter_rows c ∷ option_rows c ∷ []

-- The fields of a `value`.
abbrev pub value_rows : Rows ConfigMessage
value_rows =
    (codes "channel", single field_kind.Text)
    ∷ (codes "path", repeated field_kind.Anything)
    ∷ (codes "kind", single field_kind.Anything)
    ∷ (codes "scale", single field_kind.Anything)
    ∷ []

-- The fields of each message.
abbrev pub config_field : ConfigMessage → List ℕ → Option (Field ConfigMessage)
config_field (message.File c) name = first_of (map (λ rows. field_among rows name) (tables_of c))
config_field message.Value name = field_in value_rows name

-- Why the parameters of a class are refused.
abbrev pub kind_refusal : ℕ → Class → Fields → Option DagError
kind_refusal component c file = refusal_among (parameter_rows c) component file

-- A class with its parameters.
abbrev pub kind_in : Class → Fields → Kind
kind_in c file = kind_of c (λ name. value_of name file)

-- The first cause for which the fields of a class are refused, where each is of its kind.
abbrev pub values_refusal : ℕ → Class → Fields → Option DagError
values_refusal component c file =
    first_of (map (λ rows. refusal_among rows component file) (tables_of c))

-- The first cause for which the file of a component is refused.
abbrev pub class_refusal : ℕ → Class → Fields → Option DagError
class_refusal component c file = first_of (
    option_map (λ path. Shape path) (first_misfit config_field (message.File c) [] file)
    ∷ values_refusal component c file
    ∷ [])

abbrev pub config_refusal : ℕ → Option Class → Fields → Option DagError
config_refusal component None file = Some (UnknownClass component)
config_refusal component (Some c) file = class_refusal component c file

-- What the file of a component of a class says.
abbrev pub config_of : Class → Fields → Config
config_of c file = record {
  kind = kind_in c file;
  overflow = unwrap_or (overflow_of file) Newest;
  out = text_in (codes "out") file;
  options = options_in c file;
  unknown = unknown_paths config_field (message.File c) [] file;
}

abbrev pub IsConfig : Option Class → Fields → Config → Type 0
IsConfig None file config = ⊥
IsConfig (Some c) file config = config ≡ config_of c file
