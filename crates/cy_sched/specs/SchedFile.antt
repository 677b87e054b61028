-- What a scheduler file says, and the first cause for which it is refused.
use Rattle.std.specs.Prelude.{ℕ, zero, suc, negsuc, ◌≡◌, ◌≤◌, ◌+◌, ◌==◌, ◌&&◌, nat_lt, Bool, true}
use Rattle.std.specs.Prelude.{List, [], ◌∷◌, map, length, codes, sum_by, Option, Some, None}
use Rattle.std.specs.Prelude.{if◌then◌else◌, unwrap_or, option_map}
use Rattle.std.specs.Str.{bytes_eq}
use Rattle.cy_text.specs.Fields.{Fields, Nothing}
use Rattle.cy_config.specs.Lookups.{text_under, u32_under, i32_under, message_under, messages_under}
use Rattle.cy_config.specs.Checks.{first_misfit, unknown_paths}
use Rattle.cy_config.specs.Refusals.{first_of, first_repeated}
use Rattle.cy_sched.specs.Format.{sched_field}
use Rattle.cy_sched.specs.declared.format.SchedMessage.TheVariants.{File}
use Rattle.cy_sched.specs.declared.sched.Task.{Task}
use Rattle.cy_sched.specs.declared.sched.Group.{Group}
use Rattle.cy_sched.specs.declared.sched.PinTask.{PinTask}
use Rattle.cy_sched.specs.declared.sched.Sched.{Sched}
use Rattle.cy_sched.specs.declared.sched.Sched.TheVariants.{Classic, Choreography}
use Rattle.cy_sched.specs.declared.error.SchedError.{SchedError}
use Rattle.cy_sched.specs.declared.error.SchedError.TheVariants.{Shape, UnknownPolicy, NoGroup}
use Rattle.cy_sched.specs.declared.error.SchedError.TheVariants.{GroupTwice, TooManyProcessors}
use Rattle.cy_sched.specs.declared.error.SchedError.TheVariants.{Memory}

-- A message under a name, or an empty one where there is none.
abbrev pub message_in : List ℕ → Fields → Fields
message_in name fields = unwrap_or (message_under name fields) Nothing

-- The message `scheduler_conf` of a file, and its policy.
abbrev pub conf_of : Fields → Fields
conf_of file = message_in (codes "scheduler_conf") file

abbrev pub policy_of : Fields → List ℕ
policy_of conf = unwrap_or (text_under (codes "policy") conf) (codes "classic")

abbrev pub is_classic : Fields → Bool
is_classic conf = bytes_eq (policy_of conf) (codes "classic")

abbrev pub is_choreography : Fields → Bool
is_choreography conf = bytes_eq (policy_of conf) (codes "choreography")

-- A number of processors: none is read as one.
abbrev pub at_least_one : Option ℕ → ℕ
at_least_one None = 1
at_least_one (Some zero) = 1
at_least_one (Some (suc n)) = suc n

-- A task that a message describes, and a group.
abbrev pub task_of : Fields → Task
task_of fields = record {
  name = unwrap_or (text_under (codes "name") fields) [];
  prio = unwrap_or (u32_under (codes "prio") fields) 1;
}

abbrev pub group_of : Fields → Group
group_of fields = record {
  name = unwrap_or (text_under (codes "name") fields) [];
  processors = at_least_one (u32_under (codes "processor_num") fields);
  tasks = map task_of (messages_under (codes "tasks") fields);
}

-- The group that stands for groups that aren't written, with so many processors.
abbrev pub default_group : ℕ → Group
default_group processors =
    record { name = codes "default_grp"; processors = processors; tasks = [] }

abbrev pub default_processors : Fields → ℕ
default_processors conf = unwrap_or (u32_under (codes "default_proc_num") conf) 0

-- The groups of a classic file: those that are written, or the default group.
abbrev pub written_groups : Fields → List Group
written_groups conf =
    map group_of (messages_under (codes "groups") (message_in (codes "classic_conf") conf))

abbrev pub groups_or : List Group → ℕ → List Group
groups_or [] processors = default_group processors ∷ []
groups_or (g ∷ gs) processors = g ∷ gs

abbrev pub groups_of : Fields → List Group
groups_of conf = groups_or (written_groups conf) (default_processors conf)

-- Whether there is no group, nor a number of processors for the default one; and the error that
-- says so.
abbrev pub no_group : Fields → Bool
no_group conf = (length (written_groups conf) == 0) && (default_processors conf == 0)

abbrev pub IsNoGroup : Bool → SchedError → Type 0
IsNoGroup none Memory = Unit {0}
IsNoGroup none NoGroup = none ≡ true
IsNoGroup none e = ⊥

-- A task of a choreography that a message describes; without a processor it runs in the pool.
abbrev pub pin_task_of : Fields → PinTask
pin_task_of fields = record {
  name = unwrap_or (text_under (codes "name") fields) [];
  processor = unwrap_or (i32_under (codes "processor") fields) (negsuc 0);
  prio = unwrap_or (u32_under (codes "prio") fields) 1;
}

-- The choreography of a file: its processors, its pool and its tasks.
abbrev pub choreography_of : Fields → Fields
choreography_of conf = message_in (codes "choreography_conf") conf

abbrev pub pinned_processors : Fields → ℕ
pinned_processors choreography =
    unwrap_or (u32_under (codes "choreography_processor_num") choreography) 0

abbrev pub pool_processors : Fields → ℕ
pool_processors choreography = at_least_one (u32_under (codes "pool_processor_num") choreography)

abbrev pub pin_tasks : Fields → List PinTask
pin_tasks choreography = map pin_task_of (messages_under (codes "tasks") choreography)

-- The scheduler that a file describes.
abbrev pub choreography_in : Fields → List (List ℕ) → Sched
choreography_in c unknown =
    Choreography (pinned_processors c) (pool_processors c) (pin_tasks c) unknown

abbrev pub sched_in : Fields → List (List ℕ) → Sched
sched_in conf unknown =
    if is_classic conf then Classic (groups_of conf) unknown
    else choreography_in (choreography_of conf) unknown

abbrev pub sched_of : Fields → Sched
sched_of file = sched_in (conf_of file) (unknown_paths sched_field File [] file)

-- How many processors groups ask for, together, and more than 64 of them.
abbrev pub processors_of : List Group → ℕ
processors_of groups = sum_by (λ g. g.processors) groups

abbrev pub too_many : ℕ → Option SchedError
too_many count = if nat_lt 64 count then Some (TooManyProcessors count) else None

-- Why groups are refused that are there.
abbrev pub groups_refusal : List Group → Option SchedError
groups_refusal groups = first_of (
    option_map (λ name. GroupTwice name) (first_repeated (map (λ g. g.name) groups))
    ∷ too_many (processors_of groups)
    ∷ [])

-- Why those of a file are, and why a choreography is.
abbrev pub classic_refusal : Fields → Option SchedError
classic_refusal conf = first_of (
    (if no_group conf then Some NoGroup else None)
    ∷ option_map (λ name. GroupTwice name) (first_repeated (map (λ g. g.name) (groups_of conf)))
    ∷ too_many (processors_of (groups_of conf))
    ∷ [])

abbrev pub choreography_refusal : Fields → Option SchedError
choreography_refusal c = too_many (pinned_processors c + pool_processors c)

-- The first cause for which a file is refused.
abbrev pub conf_refusal : Fields → Option SchedError
conf_refusal conf =
    if is_classic conf then classic_refusal conf
    else (if is_choreography conf then choreography_refusal (choreography_of conf)
    else Some (UnknownPolicy (policy_of conf)))

abbrev pub sched_refusal : Fields → Option SchedError
sched_refusal file = first_of (
    option_map (λ path. Shape path) (first_misfit sched_field File [] file)
    ∷ conf_refusal (conf_of file)
    ∷ [])

-- What is used where no file is given.
abbrev pub default_sched : Sched
default_sched = Classic (default_group 2 ∷ []) []

-- A scheduler by which components can be placed: there is a group, and at most 64 processors.
abbrev pub IsPlaceable : Sched → Type 0
IsPlaceable (Classic groups unknown) = (1 ≤ length groups) × (processors_of groups ≤ 64)
IsPlaceable (Choreography processors pool tasks unknown) = processors + pool ≤ 64
