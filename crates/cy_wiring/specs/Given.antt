-- The values that all component files give. They hold for the whole play: so no two of a channel
-- may differ, and none may be of a channel whose messages are made in the play.
use Rattle.std.specs.Prelude.{ℕ, suc, ◌&&◌, not, Bool, true, false, List, [], ◌∷◌, ◌++◌, length}
use Rattle.std.specs.Prelude.{map, slice_get, find, Option, option_map, option_and_then}
use Rattle.std.specs.List.{flat_map, position}
use Rattle.std.specs.Option.{option_or}
use Rattle.std.specs.Str.{bytes_eq}
use Rattle.cy_comp.specs.declared.kind.Kind.{Kind}
use Rattle.cy_comp.specs.declared.kind.Kind.TheVariants.{External}
use Rattle.cy_value.specs.Forms.{is_same}
use Rattle.cy_value.specs.declared.values.ChannelValue.{ChannelValue}
use Rattle.cy_config.specs.Refusals.{first_of}
use Rattle.cy_dag.specs.DagFile.{refuse_if}
use Rattle.cy_wiring.specs.Triggers.{timer_named}
use Rattle.cy_dag.specs.DagFile.{first_found}
use Rattle.cy_dag.specs.declared.config.Config.{Config}
use Rattle.cy_dag.specs.declared.dag.DagComponent.{DagComponent}
use Rattle.cy_dag.specs.declared.error.DagError.{DagError}
use Rattle.cy_dag.specs.declared.error.DagError.TheVariants.{ValueDiffers, ValueWritten}

-- All values of a play, in the order of the components and of their files.
abbrev pub values_of : List Config → List ChannelValue
values_of configs = flat_map (λ config. config.options.values) configs

-- The same, each with the number of its component. The first component has some number.
abbrev pub given_from : (first : ℕ) → List Config → List (ℕ × ChannelValue)
given_from first [] = []
given_from first (config ∷ configs) =
    map (λ value. (first, value)) config.options.values ++ given_from (suc first) configs

abbrev pub given_by : List Config → List (ℕ × ChannelValue)
given_by configs = given_from 0 configs

-- The first value of a channel.
abbrev pub first_given : List (ℕ × ChannelValue) → (channel : List ℕ) → Option (ℕ × ChannelValue)
first_given given channel = find (λ g. bytes_eq g.1.channel channel) given

-- Two values differ: the components of both.
abbrev pub difference : (first second : ℕ × ChannelValue) → Option DagError
difference first second =
    refuse_if (not (is_same first.1.form second.1.form)) (ValueDiffers first.0 second.0)

-- A value differs from the first one of its channel.
abbrev pub differs : List (ℕ × ChannelValue) → ℕ × ChannelValue → Option DagError
differs given value =
    option_and_then (λ first. difference first value) (first_given given value.1.channel)

unfoldable pub differs_refusal : List (ℕ × ChannelValue) → Option DagError
differs_refusal given =
    first_found (λ place. option_and_then (differs given) (slice_get given place)) (length given)

-- The component that makes the messages of a channel: one of a built-in class, or a timer component
-- whose ticks they are. The answers of an ExternalComponent are made outside of the play.
abbrev pub is_built_in : Kind → Bool
is_built_in (External answers) = false
is_built_in _ = true

abbrev pub built_in_writer : List Config → (channel : List ℕ) → Option ℕ
built_in_writer configs channel =
    position (λ config. is_built_in config.kind && bytes_eq config.out channel) configs

abbrev pub maker_of : List DagComponent → List Config → (channel : List ℕ) → Option ℕ
maker_of components configs channel =
    option_or (built_in_writer configs channel) (timer_named components channel)

-- A value is given for a channel with a maker.
abbrev pub written : List DagComponent → List Config → ℕ × ChannelValue → Option DagError
written components configs value = option_map (λ maker. ValueWritten value.0 maker)
    (maker_of components configs value.1.channel)

unfoldable pub written_refusal : List DagComponent → List Config → List (ℕ × ChannelValue)
    → Option DagError
written_refusal components configs given = first_found
    (λ place. option_and_then (written components configs) (slice_get given place)) (length given)

-- The first cause for which the values of all component files are refused.
abbrev pub all_given_refusal : List DagComponent → List Config → Option DagError
all_given_refusal components configs = first_of (
    differs_refusal (given_by configs)
    ∷ written_refusal components configs (given_by configs)
    ∷ [])
