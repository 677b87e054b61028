-- The text that tells what the configuration files of a run say.
use Rattle.std.specs.Prelude.{ℕ, true, List, [], ◌∷◌, ◌++◌, codes, length, slice_get, Option, Some}
use Rattle.std.specs.Prelude.{None, unwrap_or, option_map}
use Rattle.std.specs.Fmt.{decimal}
use Rattle.std.specs.List.{flat_map, zip}
use Rattle.cy_msg.specs.Quoted.{quoted}
use Rattle.cy_msg.specs.declared.placement.ContextPlan.{ContextPlan}
use Rattle.cy_fuse.specs.declared.overflow.Overflow.{Overflow}
use Rattle.cy_fuse.specs.declared.overflow.Overflow.TheVariants.{Newest, Oldest}
use Rattle.cy_comp.specs.declared.kind.Kind.{Kind}
use Rattle.cy_comp.specs.declared.kind.Kind.TheVariants.{External}
use Rattle.cy_value.specs.Names.{kind_name}
use Rattle.cy_value.specs.declared.values.ChannelValue.{ChannelValue}
use Rattle.cy_wiring.specs.Wiring.{queue_of_first}
use Rattle.cy_dag.specs.declared.config.Config.{Config}
use Rattle.cy_dag.specs.declared.dag.DagComponent.{DagComponent}

-- Names in quotes, each behind a space.
abbrev pub spaced : List ℕ → List ℕ
spaced name = codes " " ++ quoted true name

-- What is done where a tuple isn't kept any more: nothing is said of going on at the newest.
unfoldable pub overflow_text : Overflow → List ℕ
overflow_text Newest = []
overflow_text Oldest = codes " overflow OLDEST"

-- How many answers a class has from a file.
abbrev pub answer_count : Kind → ℕ
answer_count (External answers) = length answers
answer_count _ = 0

-- The record that answers come from, and how many come; nothing is said where there is none.
unfoldable pub answers_text : List ℕ → ℕ → List ℕ
answers_text [] count = []
answers_text (c ∷ cs) count = codes " answers" ++ spaced (c ∷ cs) ++ codes " " ++ decimal count

-- The answers of a component, by its file.
abbrev pub answers_of : Config → List ℕ
answers_of config = answers_text config.options.answers (answer_count config.kind)

-- A component: its name, its class, the channels that it reads, how many tuples wait for it, the
-- channel that it writes, what it does where a tuple isn't kept any more, and its answers.
abbrev pub component_line : DagComponent → Config → List ℕ
component_line c config =
    codes "component " ++ quoted true c.name ++ codes " class " ++ c.class_name ++ codes " reads"
    ++ flat_map (λ r. spaced r.channel) c.readers
    ++ codes " queue " ++ decimal (queue_of_first c.readers)
    ++ codes " writes " ++ quoted true config.out ++ overflow_text config.overflow
    ++ answers_of config ++ codes "\n"

-- How often a tick triggers a timer component.
unfoldable pub interval_text : ℕ → List ℕ
interval_text interval = codes " every " ++ decimal interval ++ codes " ms"

-- A timer component: its name, its class, each how many milliseconds a tick triggers it, the
-- channel that it writes, and its answers.
abbrev pub timer_line : ℕ → DagComponent → Config → List ℕ
timer_line interval c config =
    codes "timer " ++ quoted true c.name ++ codes " class " ++ c.class_name
    ++ interval_text interval ++ codes " writes " ++ quoted true config.out ++ answers_of config
    ++ codes "\n"

-- The line of a component of either kind.
abbrev pub line_by : Option ℕ → DagComponent → Config → List ℕ
line_by None c config = component_line c config
line_by (Some interval) c config = timer_line interval c config

-- The numbers of a path, each behind a space.
abbrev pub path_text : List ℕ → List ℕ
path_text path = flat_map (λ number. codes " " ++ decimal number) path

-- Where the values of a channel's messages are: the path to their field, its kind, and by what
-- numbers with a point are multiplied.
abbrev pub value_line : ChannelValue → List ℕ
value_line value =
    codes "value " ++ quoted true value.channel ++ codes " path" ++ path_text value.form.path
    ++ codes " kind " ++ kind_name value.form.kind ++ codes " scale " ++ decimal value.form.scale
    ++ codes "\n"

-- The line of a component, and then those of the values that its file gives.
abbrev pub lines_of : DagComponent → Config → List ℕ
lines_of c config = line_by c.interval c config ++ flat_map value_line config.options.values

-- The name of the component with a number.
abbrev pub name_in : List DagComponent → ℕ → List ℕ
name_in components c = unwrap_or (option_map (λ d. d.name) (slice_get components c)) []

-- The components of a context in their order, or a dash where there is none.
unfoldable pub order_text : List DagComponent → List ℕ → List ℕ
order_text components [] = codes " -"
order_text components (c ∷ cs) = flat_map (λ d. spaced (name_in components d)) (c ∷ cs)

-- A context: its name and its processors, and the order in which its components are scanned.
unfoldable pub context_head : ContextPlan → List ℕ
context_head plan =
    codes "context " ++ quoted true plan.name ++ codes " processors " ++ decimal plan.processors
    ++ codes " order"

abbrev pub context_line : List DagComponent → ContextPlan → List ℕ
context_line components plan =
    context_head plan ++ order_text components plan.order ++ codes "\n"

-- A field of a file that isn't known.
abbrev pub unknown_line : List ℕ → List ℕ → List ℕ
unknown_line file path = codes "unknown " ++ file ++ codes " " ++ path ++ codes "\n"

abbrev pub unknown_lines : List ℕ → List (List ℕ) → List ℕ
unknown_lines file paths = flat_map (unknown_line file) paths

-- The lines of all components and their values, those of all contexts, and those of the unknown
-- fields of each component file.
abbrev pub component_lines : List DagComponent → List Config → List ℕ
component_lines components configs =
    flat_map (λ p. lines_of p.0 p.1) (zip components configs)

abbrev pub context_lines : List DagComponent → List ContextPlan → List ℕ
context_lines components contexts = flat_map (context_line components) contexts

abbrev pub config_lines : List DagComponent → List Config → List ℕ
config_lines components configs =
    flat_map (λ p. unknown_lines p.0.config_file_path p.1.unknown) (zip components configs)

-- The whole text: the unknown fields of the DAG file, the component files and the scheduler file
-- stand in this order.
abbrev pub text_of : List DagComponent → List Config → List ContextPlan → List ℕ → List (List ℕ)
    → List ℕ → List (List ℕ) → List ℕ
text_of components configs contexts dag_file in_dag sched_file in_sched =
    component_lines components configs
    ++ context_lines components contexts
    ++ unknown_lines dag_file in_dag
    ++ config_lines components configs
    ++ unknown_lines sched_file in_sched
    ++ codes "ok\n"
