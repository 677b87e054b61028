-- The classes of components: their names, how many readers each needs, and its parameters.
use Rattle.std.specs.Prelude.{ℕ, ℤ, pos, negsuc, nat_abs, List, [], ◌∷◌, codes, Option, Some, None}
use Rattle.std.specs.Prelude.{◌≡◌, true, if◌then◌else◌}
use Rattle.std.specs.Str.{bytes_eq}
use Rattle.cy_comp.specs.declared.kind.Kind.{Kind}
use Rattle.cy_comp.specs.declared.kind.Kind.TheVariants as kind
use Rattle.cy_comp.specs.Kind.{is_kind_in_range}
use Rattle.cy_dag.specs.declared.class.Class.{Class}
use Rattle.cy_dag.specs.declared.class.Class.TheVariants.{Pass, Filter, Sum, Count, Max, Window}
use Rattle.cy_dag.specs.declared.class.Class.TheVariants.{Change, Select, Hold, Take}
use Rattle.cy_dag.specs.declared.class.Class.TheVariants.{External}
use Rattle.cy_dag.specs.declared.config.Config.{Config}

abbrev pub class_names : List (List ℕ × Class)
class_names =
    (codes "PassComponent", Pass)
    ∷ (codes "FilterComponent", Filter)
    ∷ (codes "SumComponent", Sum)
    ∷ (codes "CountComponent", Count)
    ∷ (codes "MaxComponent", Max)
    ∷ (codes "WindowComponent", Window)
    ∷ (codes "ChangeComponent", Change)
    ∷ (codes "SelectComponent", Select)
    ∷ (codes "HoldComponent", Hold)
    ∷ (codes "TakeComponent", Take)
    ∷ (codes "ExternalComponent", External)
    ∷ []

abbrev pub class_in : List (List ℕ × Class) → List ℕ → Option Class
class_in [] name = None
class_in (row ∷ rows) name = if bytes_eq name row.0 then Some row.1 else class_in rows name

-- The class of a name.
abbrev pub class_named : List ℕ → Option Class
class_named name = class_in class_names name

-- How many readers a component of a class has at least: Select reads three.
abbrev pub readers_needed : Class → ℕ
readers_needed Select = 3
readers_needed _ = 1

-- A parameter: its name, and the least and the most that it may be.
pub record Parameter : Type 0 where
  pub name : List ℕ
  pub least : ℤ
  pub most : ℤ

-- Any i64.
abbrev pub i64_parameter : List ℕ → Parameter
i64_parameter name = record {
  name = name;
  least = negsuc 9223372036854775807;
  most = pos 9223372036854775807;
}

-- A whole number from a least one to a greatest one.
abbrev pub number_parameter : List ℕ → ℕ → ℕ → Parameter
number_parameter name least most = record { name = name; least = pos least; most = pos most }

-- The parameters of a class, in the order in which they are judged.
abbrev pub parameters_of : Class → List Parameter
parameters_of Filter = i64_parameter (codes "lo") ∷ i64_parameter (codes "hi") ∷ []
parameters_of Window = number_parameter (codes "n") 1 4096 ∷ []
parameters_of Hold = number_parameter (codes "delay") 0 18446744073709551615 ∷ []
parameters_of Take = number_parameter (codes "n") 1 4294967295 ∷ []
parameters_of _ = []

-- A class with parameters, where each name has a value; one whose answers come from a file has none
-- before that is read.
abbrev pub kind_of : Class → (List ℕ → ℤ) → Kind
kind_of Pass value = kind.Pass
kind_of Filter value = kind.Filter (value (codes "lo")) (value (codes "hi"))
kind_of Sum value = kind.Sum
kind_of Count value = kind.Count
kind_of Max value = kind.Max
kind_of Window value = kind.Window (nat_abs (value (codes "n")))
kind_of Change value = kind.Change
kind_of Select value = kind.Select
kind_of Hold value = kind.Hold (nat_abs (value (codes "delay")))
kind_of Take value = kind.Take (nat_abs (value (codes "n")))
kind_of External value = kind.External []

-- The class of a kind, without its parameters.
abbrev pub class_of : Kind → Class
class_of kind.Pass = Pass
class_of (kind.Filter lo hi) = Filter
class_of kind.Sum = Sum
class_of kind.Count = Count
class_of kind.Max = Max
class_of (kind.Window n) = Window
class_of kind.Change = Change
class_of kind.Select = Select
class_of (kind.Hold delay) = Hold
class_of (kind.Take n) = Take
class_of (kind.External answers) = External

-- A kind is of a class, with parameters in their ranges.
abbrev pub IsKindOf : Class → Kind → Type 0
IsKindOf c k = (class_of k ≡ c) × (is_kind_in_range k ≡ true)

-- A component file is one of a class with this name.
abbrev pub IsOfClass : List ℕ → Config → Type 0
IsOfClass class_name config =
    (class_named class_name ≡ Some (class_of config.kind)) × (is_kind_in_range config.kind ≡ true)
