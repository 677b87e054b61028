-- One component that passes messages on, as configuration files would have it.
use Rattle.std.specs.Prelude.{ℕ, ◌≢◌, ◌≡◌, nat_lt, if◌then◌else◌, List, [], ◌∷◌, ◌++◌, length}
use Rattle.std.specs.Prelude.{codes, None}
use Rattle.cy_store.specs.Reads.{Reads, Accepts, Refuses}
use Rattle.cy_fuse.specs.declared.overflow.Overflow.TheVariants.{Newest}
use Rattle.cy_comp.specs.declared.kind.Kind.TheVariants.{Pass}
use Rattle.cy_comp.specs.Options.{options_with}
use Rattle.cy_dag.specs.DagFile.{count_of}
use Rattle.cy_wiring.specs.Wiring.{named, number_in}
use Rattle.cy_dag.specs.declared.config.Config.{Config}
use Rattle.cy_dag.specs.declared.dag.DagComponent.{DagComponent}
use Rattle.cy_dag.specs.declared.error.DagError.TheVariants.{TooManyChannels}
use Rattle.cy_reader.specs.Record.{Contents}
use Rattle.cy_sched.specs.SchedFile.{default_sched}
use Rattle.cy_setup.specs.declared.error.Fault.TheVariants as fault
use Rattle.cy_setup.specs.declared.error.Refusal.{Refusal}
use Rattle.cy_setup.specs.Configuration.{Configured}
use Rattle.cy_reader.specs.Named.{as_read, known_as}
use Rattle.cy_setup.specs.Wiring.{Wired, wiring_in}

-- The component `pass`, of the class of those that pass messages on: it reads one channel, in a
-- queue of one message. Its file is never read, and has a name since each component's has one.
abbrev pub pass_component : List ℕ → DagComponent
pass_component from = record {
  class_name = codes "PassComponent";
  name = codes "pass";
  config_file_path = codes "pass";
  readers = record { channel = from; queue = 1 } ∷ [];
  interval = None;
}

-- It writes the other channel, in messages of some type.
abbrev pub pass_config : (to message_type : List ℕ) → Config
pass_config to message_type =
    record {
      kind = Pass;
      overflow = Newest;
      out = to;
      options = options_with message_type;
      unknown = [];
    }

-- It alone, placed by the default scheduler.
abbrev pub passing : (from to message_type : List ℕ) → Configured
passing from to message_type = record {
  dag = record { components = pass_component from ∷ []; unknown = [] };
  configs = pass_config to message_type ∷ [];
  sched = default_sched;
}

-- The type that a record has for a channel: empty where it has no section of that channel.
abbrev pub type_read : Contents → List ℕ → List ℕ
type_read whole name = (as_read name (known_as name whole.channels)).message_type

-- It over channels with these names; there may be more of them than a wiring has names for.
abbrev pub pass_wired : (names : List (List ℕ)) (from to message_type : List ℕ) → Wired
pass_wired names from to message_type = record {
  names = names;
  plans = record {
    name = codes "pass";
    kind = Pass;
    readers = number_in names from ∷ [];
    queue = 1;
    overflow = Newest;
    out = number_in names to;
    options = options_with message_type;
    interval = None;
  } ∷ [];
}

abbrev pub pass_wiring : (file : List ℕ) (names : List (List ℕ)) (from to message_type : List ℕ)
    → Reads Refusal Wired
pass_wiring file names from to message_type =
    if nat_lt 1024 (length names)
    then Refuses record {
      file = file;
      fault = fault.Dag (TooManyChannels (count_of (length names)));
    }
    else Accepts (pass_wired names from to message_type)

-- Where its two channels differ, wiring it over those of a record comes to that: the channels of
-- the record, and behind them the two, each where it is first mentioned.
abbrev pub PassIsWired : Type 0
PassIsWired = (file from to message_type : List ℕ) (channels : List (List ℕ)) → from ≢ to
    → wiring_in file channels (passing from to message_type)
    ≡ pass_wiring file (named (channels ++ from ∷ to ∷ [])) from to message_type
