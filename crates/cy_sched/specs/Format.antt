-- The fields of a scheduler file.
use Rattle.std.specs.Prelude.{ℕ, List, [], ◌∷◌, codes, Option}
use Rattle.cy_config.specs.Tables.{Rows, single, repeated, u32_kind, i32_kind, field_in}
use Rattle.cy_config.specs.declared.field.Kind.TheVariants as kind
use Rattle.cy_config.specs.declared.field.Field.{Field}
use Rattle.cy_sched.specs.declared.format.SchedMessage.{SchedMessage}
use Rattle.cy_sched.specs.declared.format.SchedMessage.TheVariants.{File, Scheduler, Classic, Group}
use Rattle.cy_sched.specs.declared.format.SchedMessage.TheVariants.{Task, Choreography, PinTask}

-- The file itself.
abbrev pub file_rows : Rows SchedMessage
file_rows =
    (codes "scheduler_conf", single (kind.Message Scheduler))
    ∷ []

-- `scheduler_conf`.
abbrev pub scheduler_rows : Rows SchedMessage
scheduler_rows =
    (codes "policy", single kind.Text)
    ∷ (codes "routine_num", single kind.Anything)
    ∷ (codes "default_proc_num", single u32_kind)
    ∷ (codes "process_level_cpuset", single kind.Anything)
    ∷ (codes "threads", repeated kind.Anything)
    ∷ (codes "classic_conf", single (kind.Message Classic))
    ∷ (codes "choreography_conf", single (kind.Message Choreography))
    ∷ []

-- `classic_conf`.
abbrev pub classic_rows : Rows SchedMessage
classic_rows =
    (codes "groups", repeated (kind.Message Group))
    ∷ []

-- One of `groups`.
abbrev pub group_rows : Rows SchedMessage
group_rows =
    (codes "name", single kind.Text)
    ∷ (codes "processor_num", single u32_kind)
    ∷ (codes "affinity", single kind.Anything)
    ∷ (codes "cpuset", single kind.Anything)
    ∷ (codes "processor_policy", single kind.Anything)
    ∷ (codes "processor_prio", single kind.Anything)
    ∷ (codes "tasks", repeated (kind.Message Task))
    ∷ []

-- One of the `tasks` of a group.
abbrev pub task_rows : Rows SchedMessage
task_rows =
    (codes "name", single kind.Text)
    ∷ (codes "prio", single u32_kind)
    ∷ (codes "group_name", single kind.Anything)
    ∷ []

-- `choreography_conf`.
abbrev pub choreography_rows : Rows SchedMessage
choreography_rows =
    (codes "choreography_processor_num", single u32_kind)
    ∷ (codes "choreography_affinity", single kind.Anything)
    ∷ (codes "choreography_cpuset", single kind.Anything)
    ∷ (codes "choreography_processor_policy", single kind.Anything)
    ∷ (codes "choreography_processor_prio", single kind.Anything)
    ∷ (codes "pool_processor_num", single u32_kind)
    ∷ (codes "pool_affinity", single kind.Anything)
    ∷ (codes "pool_cpuset", single kind.Anything)
    ∷ (codes "pool_processor_policy", single kind.Anything)
    ∷ (codes "pool_processor_prio", single kind.Anything)
    ∷ (codes "tasks", repeated (kind.Message PinTask))
    ∷ []

-- One of the `tasks` of a choreography.
abbrev pub pin_task_rows : Rows SchedMessage
pin_task_rows =
    (codes "name", single kind.Text)
    ∷ (codes "processor", single i32_kind)
    ∷ (codes "prio", single u32_kind)
    ∷ []

-- The fields of each message.
abbrev pub rows_of : SchedMessage → Rows SchedMessage
rows_of File = file_rows
rows_of Scheduler = scheduler_rows
rows_of Classic = classic_rows
rows_of Group = group_rows
rows_of Task = task_rows
rows_of Choreography = choreography_rows
rows_of PinTask = pin_task_rows

abbrev pub sched_field : SchedMessage → List ℕ → Option (Field SchedMessage)
sched_field m name = field_in (rows_of m) name
