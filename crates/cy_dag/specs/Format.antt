-- The fields of a DAG file.
use Rattle.std.specs.Prelude.{ℕ, List, [], ◌∷◌, codes, Option}
use Rattle.cy_config.specs.Tables.{Rows, single, repeated, u32_kind, field_in}
use Rattle.cy_config.specs.declared.field.Kind.TheVariants as kind
use Rattle.cy_config.specs.declared.field.Field.{Field}
use Rattle.cy_dag.specs.declared.format.DagMessage.{DagMessage}
use Rattle.cy_dag.specs.declared.format.DagMessage.TheVariants.{File, Module, Component, Settings}
use Rattle.cy_dag.specs.declared.format.DagMessage.TheVariants.{Reader, TimerComponent}
use Rattle.cy_dag.specs.declared.format.DagMessage.TheVariants.{TimerSettings}

-- The file itself.
abbrev pub file_rows : Rows DagMessage
file_rows =
    (codes "module_config", repeated (kind.Message Module))
    ∷ []

-- One of `module_config`.
abbrev pub module_rows : Rows DagMessage
module_rows =
    (codes "module_library", single kind.Text)
    ∷ (codes "components", repeated (kind.Message Component))
    ∷ (codes "timer_components", repeated (kind.Message TimerComponent))
    ∷ []

-- One of `components`.
abbrev pub component_rows : Rows DagMessage
component_rows =
    (codes "class_name", single kind.Text)
    ∷ (codes "config", single (kind.Message Settings))
    ∷ []

-- The `config` of a component.
abbrev pub settings_rows : Rows DagMessage
settings_rows =
    (codes "name", single kind.Text)
    ∷ (codes "config_file_path", single kind.Text)
    ∷ (codes "flag_file_path", single kind.Text)
    ∷ (codes "readers", repeated (kind.Message Reader))
    ∷ []

-- One of `readers`.
abbrev pub reader_rows : Rows DagMessage
reader_rows =
    (codes "channel", single kind.Text)
    ∷ (codes "qos_profile", single kind.AnyMessage)
    ∷ (codes "pending_queue_size", single u32_kind)
    ∷ []

-- One of `timer_components`.
abbrev pub timer_component_rows : Rows DagMessage
timer_component_rows =
    (codes "class_name", single kind.Text)
    ∷ (codes "config", single (kind.Message TimerSettings))
    ∷ []

-- The `config` of a timer component.
abbrev pub timer_settings_rows : Rows DagMessage
timer_settings_rows =
    (codes "name", single kind.Text)
    ∷ (codes "config_file_path", single kind.Text)
    ∷ (codes "flag_file_path", single kind.Text)
    ∷ (codes "interval", single u32_kind)
    ∷ []

-- The fields of each message.
abbrev pub rows_of : DagMessage → Rows DagMessage
rows_of File = file_rows
rows_of Module = module_rows
rows_of Component = component_rows
rows_of Settings = settings_rows
rows_of Reader = reader_rows
rows_of TimerComponent = timer_component_rows
rows_of TimerSettings = timer_settings_rows

abbrev pub dag_field : DagMessage → List ℕ → Option (Field DagMessage)
dag_field m name = field_in (rows_of m) name
