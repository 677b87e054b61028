-- Calls that are kept apart from their numbers.
use Rattle.std.specs.Prelude.{ℕ, ℤ, ◌+◌, ◌≡◌, ◌≤◌, ◌<◌, ◌++◌, List, length, map, take, drop}
use Rattle.std.specs.Prelude.{Option, Some, None, slice_index}
use Rattle.cy_trace.specs.declared.kept_call.KeptCall.{KeptCall}
use Rattle.cy_trace.specs.declared.kept_call.Put.{Put}
use Rattle.cy_trace.specs.declared.kept_call.Put.TheVariants.{Nothing, Plain, Whole}
use Rattle.cy_trace.specs.declared.trace.TraceCall.{TraceCall}
use Rattle.cy_trace.specs.declared.trace.TraceOutput.{TraceOutput}

-- An output by its kind, its number, its time and its value.
abbrev pub output_by : Put → (seq time : ℕ) → (value : ℤ) → Option TraceOutput
output_by Nothing seq time value = None
output_by Plain seq time value = Some record { seq = seq; time = time; value = None }
output_by Whole seq time value = Some record { seq = seq; time = time; value = Some value }

-- Where the number of what a call put out stands: behind those of its messages.
abbrev pub end_of : KeptCall → ℕ
end_of k = k.first + k.count

-- A call, whose numbers stand among these.
abbrev pub call_in : (numbers : List ℕ) → KeptCall → TraceCall
call_in numbers k = record {
  position = k.position;
  tail = k.tail;
  seqs = take k.count (drop k.first numbers);
  out = output_by k.put (slice_index numbers (end_of k)) k.time k.value;
}

-- Calls, whose numbers stand among these.
abbrev pub calls_in : (numbers : List ℕ) → List KeptCall → List TraceCall
calls_in numbers kept = map (call_in numbers) kept

-- The numbers of a call stand there.
pub record HasNumbers (numbers : List ℕ) (k : KeptCall) : Type 0 where
  pub few : k.count ≤ 4
  pub there : end_of k < length numbers

-- Numbers stand at the beginning of others.
abbrev pub Begins : List ℕ → List ℕ → Type 0
Begins numbers others = (more : List ℕ) × (others ≡ numbers ++ more)
