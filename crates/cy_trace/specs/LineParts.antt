-- Parts of a trace's lines, and the version of its form.
use Rattle.std.specs.Prelude.{ℕ, ℤ, ◌==◌, Bool, true, false, if◌then◌else◌, List, [], ◌++◌, Option}
use Rattle.std.specs.Prelude.{Some, None, codes}
use Rattle.std.specs.List.{list_any}
use Rattle.std.specs.Fmt.{signed_decimal}
use Rattle.cy_msg.specs.Quoted.{quoted}
use Rattle.cy_fuse.specs.declared.overflow.Overflow.{Overflow}
use Rattle.cy_fuse.specs.declared.overflow.Overflow.TheVariants.{Newest, Oldest}
use Rattle.cy_comp.specs.declared.plan.Plan.{Plan}

-- Whether a component goes on at the oldest tuple that is kept.
abbrev pub is_oldest : Overflow → Bool
is_oldest Newest = false
is_oldest Oldest = true

-- The version of the form in which these components are told of: the first one where each goes on
-- at the newest tuple, else the second one.
abbrev pub version_of : List Plan → ℕ
version_of plans = if list_any (λ p. is_oldest p.overflow) plans then 2 else 1

-- What the line of a component tells of its overflow: nothing in the first version.
abbrev pub told : (version : ℕ) → Overflow → Option Overflow
told version overflow = if version == 1 then None else Some overflow

abbrev pub overflow_word : Overflow → List ℕ
overflow_word Newest = codes "NEWEST"
overflow_word Oldest = codes "OLDEST"

abbrev pub told_text : Option Overflow → List ℕ
told_text None = []
told_text (Some overflow) = codes " overflow " ++ overflow_word overflow

-- A value, where there is one.
abbrev pub value_text : Option ℤ → List ℕ
value_text None = []
value_text (Some value) = codes "=" ++ signed_decimal value

-- What the lines of a channel's messages begin with.
abbrev pub tape_start : (name : List ℕ) → List ℕ
tape_start name = codes "tape " ++ quoted true name ++ codes " "
