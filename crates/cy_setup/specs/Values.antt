-- The values of a play's channels, and answers by them.
use Rattle.std.specs.Prelude.{List, Option, map}
use Rattle.std.specs.List.{flat_map}
use Rattle.cy_answers.specs.Valued.{valued}
use Rattle.cy_comp.specs.declared.kind.Kind.{Kind}
use Rattle.cy_comp.specs.declared.kind.Kind.TheVariants.{External}
use Rattle.cy_comp.specs.declared.plan.Plan.{Plan}
use Rattle.cy_wiring.specs.Given.{values_of}
use Rattle.cy_dag.specs.declared.config.Config.{Config}
use Rattle.cy_value.specs.Values.{form_of}
use Rattle.cy_value.specs.declared.form.ValueForm.{ValueForm}
use Rattle.cy_value.specs.declared.values.ChannelValue.{ChannelValue}

-- All values of a wiring, in the order of its components.
abbrev pub values_in : List Plan → List ChannelValue
values_in plans = flat_map (λ plan. plan.options.values) plans

-- A class whose answers come from a record has them with their values by a form.
abbrev pub valued_kind : Option ValueForm → Kind → Kind
valued_kind form (External answers) = External (valued form answers)
valued_kind form kind = kind

-- Component files, once all are read: answers are on the channel that their component writes, and
-- have the values that any of the files says for it.
abbrev pub valued_config : List ChannelValue → Config → Config
valued_config values config =
    record config { kind = valued_kind (form_of values config.out) config.kind }

abbrev pub valued_configs : List Config → List Config
valued_configs configs = map (valued_config (values_of configs)) configs
