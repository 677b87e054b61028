-- The trace of a run, as a value.
use Rattle.std.specs.Prelude.{ℕ, ◌+◌, Bool, if◌then◌else◌, is_some, List, [], ◌∷◌, length, map}
use Rattle.std.specs.Prelude.{Option, Some, None}
use Rattle.cy_msg.specs.Tuple.{messages_of}
use Rattle.cy_msg.specs.declared.token.Token.{Token}
use Rattle.cy_fuse.specs.Fusion.{Arrival}
use Rattle.cy_comp.specs.declared.call.Call.{Call}
use Rattle.cy_comp.specs.declared.call.Out.{Out}
use Rattle.cy_comp.specs.declared.plan.Plan.{Plan}
use Rattle.cy_comp.specs.Calls.{cursor_after}
use Rattle.wake_core.specs.Run.{Run, routes_of, played_of}
use Rattle.cy_msg.specs.Names.{channel_name}
use Rattle.cy_trace.specs.declared.trace.TraceOutput.{TraceOutput}
use Rattle.cy_trace.specs.declared.trace.TraceCall.{TraceCall}
use Rattle.cy_trace.specs.declared.trace.TraceComponent.{TraceComponent}
use Rattle.cy_trace.specs.declared.trace.TapeEntry.{TapeEntry}
use Rattle.cy_trace.specs.declared.trace.Trace.{Trace}
use Rattle.cy_trace.specs.LineParts.{version_of}

-- What a call put out, behind so many earlier outputs.
abbrev pub output_of_call : ℕ → Option Out → Option TraceOutput
output_of_call before None = None
output_of_call before (Some out) = Some (record {
  seq = before + 1;
  time = out.time;
  value =
      out.whole;
})

abbrev pub trace_call : ℕ → Call → TraceCall
trace_call before x = record {
  position = x.position;
  tail = x.tail;
  seqs = map (λ (m : Token). m.seq) (messages_of x.tuple);
  out = output_of_call before x.out;
}

-- Calls, behind so many outputs of earlier calls.
abbrev pub trace_calls : ℕ → List Call → List TraceCall
trace_calls before [] = []
trace_calls before (x ∷ rest) = trace_call before x
    ∷ trace_calls (before + (if is_some x.out then 1 else 0)) rest

abbrev pub trace_component : Plan → List Arrival → List Call → (ended : Bool) → TraceComponent
trace_component p arrivals calls ended = record {
  name = p.name;
  overflow = p.overflow;
  roles = map (λ (a : Arrival). a.0) arrivals;
  calls = trace_calls 0 calls;
  finished = ended;
  next = cursor_after calls;
}

-- The components from a number on.
abbrev pub trace_components : Run → ℕ → List Plan → List TraceComponent
trace_components w c [] = []
trace_components w c (p ∷ rest) = trace_component p (w.arrivals c) (w.calls c) (w.ended c)
    ∷ trace_components w (c + 1) rest

abbrev pub tape_entry : List (List ℕ) → Token → TapeEntry
tape_entry names t = record { name = channel_name names t.channel; seq = t.seq }

-- The trace of a run of these components over these channels, beside which so many messages were
-- shadowed.
abbrev pub trace_of_run : List (List ℕ) → List Plan → ℕ → Run → Trace
trace_of_run names plans shadowed w = record {
  version = version_of plans;
  played = length (played_of (routes_of plans) w.tape);
  shadowed = shadowed;
  components = trace_components w 0 plans;
  tape = map (tape_entry names) w.tape;
}
