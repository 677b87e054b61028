-- What reading the text of a trace comes to.
use Rattle.std.specs.Prelude.{ℕ, nat_lt, List, length, Result, Ok, Err, if◌then◌else◌}
use Rattle.cy_store.specs.Files.{Files}
use Rattle.cy_store.specs.Reads.{Reads, file_in}
use Rattle.cy_setup.specs.declared.error.Fault.TheVariants as fault
use Rattle.cy_setup.specs.declared.error.Refusal.{Refusal}

-- The longest text of a trace that is read, in bytes.
abbrev pub longest_trace : ℕ
longest_trace = 1073741824

-- A longer one is refused.
abbrev pub trace_by : List ℕ → List ℕ → Result (List ℕ) Refusal
trace_by name bytes =
    if nat_lt longest_trace (length bytes)
    then Err record { file = name; fault = fault.TraceTooLarge (length bytes) } else Ok bytes

abbrev pub trace_in : List ℕ → Files → Reads Refusal (List ℕ)
trace_in name files = file_in name (trace_by name) files
