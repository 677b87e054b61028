-- The number with which the process ends, and the status of a file that is refused.
use Rattle.std.specs.Prelude.{ℕ, if◌then◌else◌}
use Rattle.cy_store.specs.Reads.{Reads, Accepts, Refuses, Absent}
use Rattle.cy_setup.specs.declared.error.Fault.{Fault}
use Rattle.cy_setup.specs.declared.error.Refusal.{Refusal}
use Rattle.cy_setup.specs.FaultText.{is_limit}
use Rattle.cy_commands.specs.declared.status.Status.{Status}
use Rattle.cy_commands.specs.declared.status.Status.TheVariants.{Done, Refused, Usage, StoreFault}
use Rattle.cy_commands.specs.declared.status.Status.TheVariants.{SinkFault, Limit, Memory}

-- The exit status that stands for each end of a call: 0 where all was done.
abbrev pub code_of : Status → ℕ
code_of Done = 0
code_of Refused = 1
code_of Usage = 2
code_of StoreFault = 3
code_of SinkFault = 4
code_of Limit = 5
code_of Memory = 6

-- A limit that was passed has a status of its own.
abbrev pub fault_status : Fault → Status
fault_status f = if is_limit f then Limit else Refused

-- The status that reading files calls for: Done where each is there and accepted.
abbrev pub status_of : {A : Type 0} → Reads Refusal A → Status
status_of (Accepts x) = Done
status_of (Refuses r) = fault_status r.fault
status_of (Absent name) = StoreFault
