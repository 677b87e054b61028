-- The wiring that a DAG and its component files describe, and the first cause for which there is
-- none.
use Rattle.std.specs.Prelude.{ℕ, ◌≡◌, nat_lt, if◌then◌else◌, List, [], ◌∷◌, ◌++◌}
use Rattle.std.specs.Prelude.{length, map, slice_get, Option, Some, unwrap_or}
use Rattle.std.specs.Prelude.{option_map}
use Rattle.std.specs.List.{list_any, flat_map, position, zip}
use Rattle.std.specs.Str.{bytes_eq}
use Rattle.cy_comp.specs.declared.plan.Plan.{Plan}
use Rattle.cy_comp.specs.declared.wiring.Wiring.{Wiring}
use Rattle.cy_config.specs.Refusals.{first_of}
use Rattle.cy_dag.specs.Classes.{IsOfClass}
use Rattle.cy_dag.specs.DagFile.{count_of, refuse_if}
use Rattle.cy_wiring.specs.Given.{all_given_refusal}
use Rattle.cy_wiring.specs.Triggers.{writers_refusal, ticks_refusal, triggers_of, cycle_refusal}
use Rattle.cy_dag.specs.declared.config.Config.{Config}
use Rattle.cy_dag.specs.declared.dag.DagComponent.{DagComponent}
use Rattle.cy_dag.specs.declared.dag.DagReader.{DagReader}
use Rattle.cy_dag.specs.declared.error.DagError.{DagError}
use Rattle.cy_dag.specs.declared.error.DagError.TheVariants.{TooManyChannels}

-- There is a component file for each component, of its class.
pub record AreConfigs (components : List DagComponent) (configs : List Config) : Type 0 where
  pub each : length configs ≡ length components
  pub fit : (i : ℕ) (c : DagComponent) (config : Config) → slice_get components i ≡ Some c
      → slice_get configs i ≡ Some config → IsOfClass c.class_name config

-- The channels that a component reads, in order, and then the one that it writes.
abbrev pub channels_of : DagComponent × Config → List (List ℕ)
channels_of p = map (λ r. r.channel) p.0.readers ++ p.1.out ∷ []

-- All channels that are mentioned: those of the record, and then those of each component, which
-- stands beside its file.
abbrev pub mentions_of : List (List ℕ) → List (DagComponent × Config) → List (List ℕ)
mentions_of record_channels components = record_channels ++ flat_map channels_of components

-- Names with one more, which stands at their end where it isn't among them yet.
abbrev pub with_name : List (List ℕ) → List ℕ → List (List ℕ)
with_name names name =
    if list_any (λ n. bytes_eq n name) names then names else names ++ name ∷ []

-- Names, each where it is first mentioned, behind others.
abbrev pub named_behind : List (List ℕ) → List (List ℕ) → List (List ℕ)
named_behind before [] = before
named_behind before (name ∷ names) = named_behind (with_name before name) names

abbrev pub named : List (List ℕ) → List (List ℕ)
named names = named_behind [] names

-- The names of a wiring's channels, in the order of their numbers: that of first mention.
abbrev pub names_of : List (List ℕ) → List (DagComponent × Config) → List (List ℕ)
names_of record_channels components = named (mentions_of record_channels components)

abbrev pub number_in : List (List ℕ) → List ℕ → ℕ
number_in names name = unwrap_or (position (λ n. bytes_eq n name) names) 0

-- The queue of a component, which is that of its first reader.
abbrev pub queue_of_first : List DagReader → ℕ
queue_of_first readers = unwrap_or (option_map (λ r. r.queue) (slice_get readers 0)) 1

-- A component over numbered channels.
abbrev pub plan_of : List (List ℕ) → DagComponent × Config → Plan
plan_of names p = record {
  name = p.0.name;
  kind = p.1.kind;
  readers = map (λ r. number_in names r.channel) p.0.readers;
  queue = queue_of_first p.0.readers;
  overflow = p.1.overflow;
  out = number_in names p.1.out;
  options = p.1.options;
  interval = p.0.interval;
}

abbrev pub plans_of : List (List ℕ) → List (DagComponent × Config) → List Plan
plans_of names components = map (plan_of names) components

-- More channels than a wiring has names for.
abbrev pub channels_refusal : ℕ → Option DagError
channels_refusal count = refuse_if (nat_lt 1024 count) (TooManyChannels (count_of count))

-- Why what components write is refused: it is what another one writes, or a channel of ticks.
abbrev pub outs_refusal : List DagComponent → List Config → Option DagError
outs_refusal components configs =
    first_of (writers_refusal configs ∷ ticks_refusal components configs ∷ [])

-- The first cause for which components can't be wired over the channels of a record.
abbrev pub wire_refusal : List (List ℕ) → List DagComponent → List Config → Option DagError
wire_refusal record_channels components configs = first_of (
    outs_refusal components configs
    ∷ cycle_refusal (triggers_of components configs)
    ∷ all_given_refusal components configs
    ∷ channels_refusal (length (names_of record_channels (zip components configs)))
    ∷ [])

-- A wiring has the names and the components that a DAG, its component files and a record say.
pub record IsWired (record_channels : List (List ℕ)) (components : List DagComponent)
    (configs : List Config) (w : Wiring) : Type 0 where
  pub names : w.names ≡ names_of record_channels (zip components configs)
  pub plans : w.plans ≡ plans_of w.names (zip components configs)
