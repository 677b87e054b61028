-- What a DAG file says, and the first cause for which it is refused.
use Rattle.std.specs.Prelude.{ℕ, zero, suc, ◌+◌, ◌≡◌, ◌≤◌, ◌==◌, nat_lt, min, Bool, List, []}
use Rattle.std.specs.Prelude.{◌∷◌, ◌++◌, map, slice_get, length, codes, Option, Some, None, is_none}
use Rattle.std.specs.Prelude.{if◌then◌else◌, unwrap_or}
use Rattle.std.specs.Prelude.{option_map}
use Rattle.std.specs.List.{list_any, flat_map, position}
use Rattle.std.specs.Option.{option_or}
use Rattle.std.specs.Str.{bytes_eq}
use Rattle.cy_text.specs.Fields.{Fields, Nothing}
use Rattle.cy_comp.specs.Wiring.{tick_channel}
use Rattle.cy_config.specs.Lookups.{text_under, u32_under, message_under, messages_under}
use Rattle.cy_config.specs.Checks.{first_misfit, unknown_paths}
use Rattle.cy_config.specs.Refusals.{first_of, first_repeated}
use Rattle.cy_dag.specs.Classes.{class_named, readers_needed}
use Rattle.cy_dag.specs.Format.{dag_field}
use Rattle.cy_dag.specs.declared.format.DagMessage.TheVariants.{File}
use Rattle.cy_dag.specs.declared.dag.DagReader.{DagReader}
use Rattle.cy_dag.specs.declared.dag.DagComponent.{DagComponent}
use Rattle.cy_dag.specs.declared.error.DagError.{DagError}
use Rattle.cy_dag.specs.declared.error.DagError.TheVariants.{Shape, NoComponents, TooMany}
use Rattle.cy_dag.specs.declared.error.DagError.TheVariants.{Missing, NameTwice, UnknownClass}
use Rattle.cy_dag.specs.declared.error.DagError.TheVariants.{NoReader, TooManyReaders, ReaderTwice}
use Rattle.cy_dag.specs.declared.error.DagError.TheVariants.{TooFewReaders, ZeroInterval}

-- The messages under a name in all modules of a file.
abbrev pub in_modules : List ℕ → Fields → List Fields
in_modules name file = flat_map (messages_under name) (messages_under (codes "module_config") file)

-- The text under a name, empty where there is none.
abbrev pub text_in : List ℕ → Fields → List ℕ
text_in name fields = unwrap_or (text_under name fields) []

-- The size of a queue: none is read as one, and so is 0.
abbrev pub queue_of : Option ℕ → ℕ
queue_of None = 1
queue_of (Some zero) = 1
queue_of (Some (suc n)) = suc n

-- A reader that a message describes, and a component.
abbrev pub reader_of : Fields → DagReader
reader_of fields = record {
  channel = text_in (codes "channel") fields;
  queue = queue_of (u32_under (codes "pending_queue_size") fields);
}

abbrev pub settings_of : Fields → Fields
settings_of component = unwrap_or (message_under (codes "config") component) Nothing

abbrev pub component_of : Fields → DagComponent
component_of fields = record {
  class_name = text_in (codes "class_name") fields;
  name = text_in (codes "name") (settings_of fields);
  config_file_path = text_in (codes "config_file_path") (settings_of fields);
  readers = map reader_of (messages_under (codes "readers") (settings_of fields));
  interval = None;
}

-- How a timer component reads its ticks, by its name.
abbrev pub tick_reader : List ℕ → DagReader
tick_reader name = record { channel = tick_channel name; queue = 1 }

-- The interval that a message gives a timer component, and the timer component that it describes.
abbrev pub interval_of : Fields → Option ℕ
interval_of timer = u32_under (codes "interval") (settings_of timer)

abbrev pub timer_of : Fields → DagComponent
timer_of fields = record {
  class_name = text_in (codes "class_name") fields;
  name = text_in (codes "name") (settings_of fields);
  config_file_path = text_in (codes "config_file_path") (settings_of fields);
  readers = tick_reader (text_in (codes "name") (settings_of fields)) ∷ [];
  interval = Some (unwrap_or (interval_of fields) 0);
}

-- What messages describe: first components, and behind them timer components.
abbrev pub described : (components timers : List Fields) → List DagComponent
described components timers = map component_of components ++ map timer_of timers

-- All components of a file.
abbrev pub components_of : Fields → List DagComponent
components_of file =
    described (in_modules (codes "components") file) (in_modules (codes "timer_components") file)

-- A count as a u32.
abbrev pub count_of : ℕ → ℕ
count_of n = min n 4294967295

-- A test, which refuses where something holds.
abbrev pub refuse_if : Bool → DagError → Option DagError
refuse_if holds e = if holds then Some e else None

-- What is given for the least number below a bound for which something is given.
abbrev pub first_found : {A : Type 0} → (ℕ → Option A) → ℕ → Option A
first_found given zero = None
first_found given (suc n) = option_or (first_found given n) (given n)

-- Whether a text is empty.
abbrev pub is_empty : List ℕ → Bool
is_empty text = length text == 0

-- Why a component's name or class is refused, behind the components before it.
abbrev pub name_refusal : List DagComponent → DagComponent → Option DagError
name_refusal earlier c = first_of (
    refuse_if (is_empty c.name) (Missing (length earlier) (codes "name"))
    ∷ option_map (λ first. NameTwice first (length earlier))
    (position (λ e. bytes_eq e.name c.name) earlier)
    ∷ refuse_if (is_none (class_named c.class_name)) (UnknownClass (length earlier))
    ∷ [])

-- Why the readers of a component with some number are refused.
abbrev pub readers_refusal : ℕ → List DagReader → Option DagError
readers_refusal number readers = first_of (
    refuse_if (length readers == 0) (NoReader number)
    ∷ refuse_if (nat_lt 4 (length readers)) (TooManyReaders number (count_of (length readers)))
    ∷ refuse_if (list_any (λ r. is_empty r.channel) readers) (Missing number (codes "channel"))
    ∷ option_map (λ channel. ReaderTwice number channel)
    (first_repeated (map (λ r. r.channel) readers))
    ∷ [])

-- How many readers a class of a name needs.
abbrev pub needed_by : List ℕ → ℕ
needed_by class_name = unwrap_or (option_map readers_needed (class_named class_name)) 1

-- The first cause for which a component is refused, behind the components before it.
abbrev pub component_refusal : List DagComponent → DagComponent → Option DagError
component_refusal earlier c = first_of (
    name_refusal earlier c
    ∷ readers_refusal (length earlier) c.readers
    ∷ refuse_if (nat_lt (length c.readers) (needed_by c.class_name))
    (TooFewReaders (length earlier) (length c.readers))
    ∷ refuse_if (is_empty c.config_file_path)
    (Missing (length earlier) (codes "config_file_path"))
    ∷ [])

-- The first cause for which one of some components is refused, behind others, and of all.
abbrev pub refusal_behind : List DagComponent → List DagComponent → Option DagError
refusal_behind earlier [] = None
refusal_behind earlier (c ∷ cs) =
    option_or (component_refusal earlier c) (refusal_behind (earlier ++ c ∷ []) cs)

abbrev pub components_refusal : List DagComponent → Option DagError
components_refusal cs = refusal_behind [] cs

-- Why the interval of a timer component with some number is refused.
abbrev pub interval_refusal : ℕ → Option ℕ → Option DagError
interval_refusal number None = Some (Missing number (codes "interval"))
interval_refusal number (Some interval) = refuse_if (interval == 0) (ZeroInterval number)

-- The first cause for which a timer component is refused that a message describes, behind the
-- components before it: it is tested as one that reads its ticks, and then its interval is.
abbrev pub timer_refusal : List DagComponent → Fields → Option DagError
timer_refusal earlier fields = first_of (
    component_refusal earlier (timer_of fields)
    ∷ interval_refusal (length earlier) (interval_of fields)
    ∷ [])

abbrev pub timers_refusal : List DagComponent → List Fields → Option DagError
timers_refusal earlier [] = None
timers_refusal earlier (fields ∷ rest) =
    option_or (timer_refusal earlier fields) (timers_refusal (earlier ++ timer_of fields ∷ []) rest)

-- Why so many components, timer components among them, are refused.
abbrev pub count_refusal : ℕ → Option DagError
count_refusal count = first_of (
    refuse_if (count == 0) NoComponents
    ∷ refuse_if (nat_lt 64 count) (TooMany (count_of count))
    ∷ [])

-- The first cause for which messages are refused that describe components and timer components.
abbrev pub described_refusal : (components timers : List Fields) → Option DagError
described_refusal components timers = first_of (
    count_refusal (length components + length timers)
    ∷ components_refusal (map component_of components)
    ∷ timers_refusal (map component_of components) timers
    ∷ [])

-- The first cause for which a file is refused whose fields are of their kinds.
abbrev pub fields_refusal : Fields → Option DagError
fields_refusal file = described_refusal (in_modules (codes "components") file)
    (in_modules (codes "timer_components") file)

-- The first cause for which a file is refused.
abbrev pub dag_refusal : Fields → Option DagError
dag_refusal file = first_of (
    option_map (λ path. Shape path) (first_misfit dag_field File [] file)
    ∷ fields_refusal file
    ∷ [])

-- The paths of the fields that a DAG doesn't have.
abbrev pub unknown_in_dag : Fields → List (List ℕ)
unknown_in_dag file = unknown_paths dag_field File [] file

-- Each reader's queue keeps at least one message.
abbrev pub HaveQueues : List DagComponent → Type 0
HaveQueues components = (i : ℕ) (c : DagComponent) → slice_get components i ≡ Some c → (j : ℕ)
    (r : DagReader) → slice_get c.readers j ≡ Some r → 1 ≤ r.queue

-- A component with an interval is a timer component: its interval isn't 0, and it reads the channel
-- of its ticks alone.
pub record IsTimer (c : DagComponent) (interval : ℕ) : Type 0 where
  pub some : 1 ≤ interval
  pub readers : c.readers ≡ tick_reader c.name ∷ []

abbrev pub HaveTicks : List DagComponent → Type 0
HaveTicks components = (i interval : ℕ) (c : DagComponent) → slice_get components i ≡ Some c
    → c.interval ≡ Some interval → IsTimer c interval
