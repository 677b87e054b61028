-- What a call answered in place of a value.
use Rattle.std.specs.Prelude.{◌≡◌, Option, Some}
use Rattle.cy_config.specs.declared.error.ConfigError.{ConfigError}
use Rattle.cy_config.specs.declared.error.ConfigError.TheVariants as config
use Rattle.cy_dag.specs.declared.error.DagError.{DagError}
use Rattle.cy_dag.specs.declared.error.DagError.TheVariants as refused

-- The fault of a check, as a refusal.
abbrev pub refused_shape : ConfigError → DagError
refused_shape (config.Shape path) = refused.Shape path
refused_shape config.Memory = refused.Memory

-- An error is the refusal that is due, or want of memory.
abbrev pub IsDue : Option DagError → DagError → Type 0
IsDue due refused.Memory = Unit {0}
IsDue due e = due ≡ Some e
