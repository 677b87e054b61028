-- What a component file may say beside its class, its channel and its overflow.
use Rattle.std.specs.Prelude.{ℕ, List, [], ◌∷◌, map, codes, Option, None, Bool, true, false}
use Rattle.std.specs.Prelude.{if◌then◌else◌, ◌++◌}
use Rattle.cy_text.specs.Fields.{Fields}
use Rattle.cy_comp.specs.declared.options.Options.{Options}
use Rattle.cy_config.specs.Refusals.{first_of}
use Rattle.cy_config.specs.Tables.{single, repeated, field_in}
use Rattle.cy_config.specs.declared.field.Field.{Field}
use Rattle.cy_config.specs.declared.field.Kind.TheVariants as kind
use Rattle.cy_dag.specs.DagFile.{text_in}
use Rattle.cy_dag.specs.Values.{file_refusal, values_in}
use Rattle.cy_dag.specs.declared.class.Class.{Class}
use Rattle.cy_dag.specs.declared.class.Class.TheVariants.{External}
use Rattle.cy_dag.specs.declared.error.DagError.{DagError}
use Rattle.cy_dag.specs.declared.format.ConfigMessage.{ConfigMessage}
use Rattle.cy_dag.specs.declared.format.ConfigMessage.TheVariants as message

-- A field that a component file may have: its name, what it may hold, and why a file is refused
-- whose values are of their kinds, by the number of its component.
pub record Row : Type 0 where
  pub name : List ℕ
  pub field : Field ConfigMessage
  pub refusal : ℕ → Fields → Option DagError

-- The field of a name among some.
abbrev pub field_among : List Row → List ℕ → Option (Field ConfigMessage)
field_among rows name = field_in (map (λ row. (row.name, row.field)) rows) name

-- The first cause for which one of some fields is refused.
abbrev pub refusal_among : List Row → ℕ → Fields → Option DagError
refusal_among rows component file = first_of (map (λ row. row.refusal component file) rows)

-- Any value of its kind is taken.
abbrev pub any_taken : ℕ → Fields → Option DagError
any_taken component file = None

-- Whether the answers of a class come from a file.
abbrev pub has_answers : Class → Bool
has_answers External = true
has_answers _ = false

abbrev pub any_text : List ℕ → Row
any_text name = record { name = name; field = single kind.Text; refusal = any_taken }

-- The values of channels.
abbrev pub value_row : Row
value_row = record {
  name = codes "value";
  field = repeated (kind.Message message.Value);
  refusal = file_refusal;
}

-- The options that the file of a class may have: among them the record of the answers, where they
-- come from one.
abbrev pub answers_rows : Class → List Row
answers_rows c = if has_answers c then any_text (codes "answers") ∷ [] else []

abbrev pub option_rows : Class → List Row
option_rows c = any_text (codes "out_type") ∷ (answers_rows c ++ value_row ∷ [])

abbrev pub answers_in : Class → Fields → List ℕ
answers_in c file = if has_answers c then text_in (codes "answers") file else []

-- What a file of a class says of them.
abbrev pub options_in : Class → Fields → Options
options_in c file = record {
  out_type = text_in (codes "out_type") file;
  description = [];
  answers = answers_in c file;
  values = values_in file;
}
