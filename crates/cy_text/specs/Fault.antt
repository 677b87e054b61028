-- What a failure says of a text.
use Rattle.std.specs.Prelude.{Option, Some, None}
use Rattle.cy_text.specs.declared.fault.Fault.{Fault}
use Rattle.cy_text.specs.declared.fault.Failure.{Failure}
use Rattle.cy_text.specs.declared.fault.Failure.TheVariants as failure

-- The text's fault. Running out of memory is none.
abbrev pub fault_in : Failure → Option Fault
fault_in failure.Memory = None
fault_in (failure.Fault fault) = Some fault
