-- Which line may come next, and what the lines so far say.
use Rattle.std.specs.Prelude.{ℕ, ◌==◌, Bool, List, [], ◌∷◌, ◌++◌, Option, Some, None, option_map}
use Rattle.std.specs.Prelude.{if◌then◌else◌}
use Rattle.std.specs.Option.{option_and_then}
use Rattle.cy_fuse.specs.declared.overflow.Overflow.{Overflow}
use Rattle.cy_fuse.specs.declared.overflow.Overflow.TheVariants.{Newest}
use Rattle.cy_trace_read.specs.LineReading.{line_of}
use Rattle.cy_trace.specs.declared.trace.Trace.{Trace}
use Rattle.cy_trace.specs.declared.error.TraceError.{TraceError}
use Rattle.cy_trace.specs.declared.error.TraceError.TheVariants as trace_error
use Rattle.cy_trace_read.specs.declared.fault.Fault.{Fault}
use Rattle.cy_trace_read.specs.declared.fault.Fault.TheVariants as fault
use Rattle.cy_trace.specs.declared.line.Line.{Line}
use Rattle.cy_trace.specs.declared.line.Line.TheVariants.{Title, Played, Component, Roles, Call}
use Rattle.cy_trace.specs.declared.line.Line.TheVariants.{End, Tape}
use Rattle.cy_trace_read.specs.declared.building.Building.{Building}
use Rattle.cy_trace_read.specs.declared.building.Prefix.{Prefix}
use Rattle.cy_trace.specs.declared.trace.TapeEntry.{TapeEntry}
use Rattle.cy_trace.specs.declared.trace.TraceCall.{TraceCall}
use Rattle.cy_trace.specs.declared.trace.TraceComponent.{TraceComponent}
use Rattle.cy_trace_read.specs.declared.building.Building.TheVariants.{Start, Titled}
use Rattle.cy_trace_read.specs.declared.building.Building.TheVariants.{Between, Named}
use Rattle.cy_trace_read.specs.declared.building.Building.TheVariants.{Called, Taped}

-- More components behind those that are there.
abbrev pub with_components : Prefix → List TraceComponent → Prefix
with_components prefix components = record {
  version = prefix.version;
  played = prefix.played;
  shadowed = prefix.shadowed;
  components = prefix.components ++ components;
}

-- The trace with a tape.
abbrev pub trace_with : Prefix → List TapeEntry → Trace
trace_with prefix tape = record {
  version = prefix.version;
  played = prefix.played;
  shadowed = prefix.shadowed;
  components = prefix.components;
  tape = tape;
}

-- A component as its lines have it.
abbrev pub component_with : List ℕ → Overflow → List ℕ → List TraceCall → Bool → ℕ → TraceComponent
component_with name overflow roles calls finished next = record {
  name = name;
  overflow = overflow;
  roles = roles;
  calls = calls;
  finished = finished;
  next = next;
}

-- The overflow of a component of whose line this is told: in the first version nothing is told, and
-- each goes on at the newest tuple.
abbrev pub overflow_by : (version : ℕ) → Option Overflow → Option Overflow
overflow_by version None = if version == 1 then Some Newest else None
overflow_by version (Some overflow) = if version == 1 then None else Some overflow

-- The title comes first, then the counts. A component is its name, its roles, its calls and its
-- end. Once the tape has begun there is nothing else.
unfoldable pub after_line : Building → Line → Option Building
after_line Start (Title version) = Some (Titled version)
after_line (Titled version) (Played p s) =
    Some (Between (record { version = version; played = p; shadowed = s; components = [] }))
after_line (Between prefix) (Component name told) =
    option_map (λ overflow. Named prefix name overflow) (overflow_by prefix.version told)
after_line (Between prefix) (Tape entry) = Some (Taped prefix (entry ∷ []))
after_line (Named prefix name overflow) (Roles roles) = Some (Called prefix name overflow roles [])
after_line (Called prefix name overflow roles calls) (Call call) =
    Some (Called prefix name overflow roles (calls ++ call ∷ []))
after_line (Called prefix name overflow roles calls) (End finished next) =
    Some (Between (with_components prefix
    (component_with name overflow roles calls finished next ∷ [])))
after_line (Taped prefix tape) (Tape entry) = Some (Taped prefix (tape ++ entry ∷ []))
after_line building line = None

-- The same, of a line's bytes.
unfoldable pub next : Building → List ℕ → Option Building
next building bytes = option_and_then (λ line. after_line building line) (line_of bytes)

-- A trace may end behind its counts, behind a component, and behind a message of the tape.
unfoldable pub finish : Building → Option Trace
finish (Between prefix) = Some (trace_with prefix [])
finish (Taped prefix tape) = Some (trace_with prefix tape)
finish building = None

-- The error of a line, from 1, where reading it failed.
abbrev pub error_at : ℕ → Fault → TraceError
error_at line fault.Bad = trace_error.Bad line
error_at line fault.Memory = trace_error.Memory
