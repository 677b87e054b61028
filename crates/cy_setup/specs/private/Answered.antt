-- What a component file says with the answers that a record has.
use Rattle.std.specs.Prelude.{◌≡◌, true, Option, Some, None}
use Rattle.cy_comp.specs.Kind.{is_kind_in_range}
use Rattle.cy_comp.specs.declared.kind.Kind.TheVariants.{External}
use Rattle.cy_dag.specs.declared.config.Config.{Config}
use Rattle.cy_setup.specs.declared.answers.Answered.{Answered}

abbrev pub config_with : Config → Answered → Config
config_with config a = record config {
  kind = External a.answers;
  options = record config.options { out_type = a.out_type; description = a.description };
}

-- Where no record is named, the file says it all.
abbrev pub config_given : Config → Option Answered → Config
config_given config None = config
config_given config (Some a) = config_with config a

-- The answers are in the range of their class.
abbrev pub AreInRange : Answered → Type 0
AreInRange a = is_kind_in_range (External a.answers) ≡ true
