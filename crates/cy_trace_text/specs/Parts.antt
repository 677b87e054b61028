-- A trace in parts.
use Rattle.std.specs.Prelude.{ℕ, ◌+◌, ◌^◌, ◌≡◌, ◌≤◌, ◌<◌, ⊤, true, List, [], ◌++◌, length, map}
use Rattle.std.specs.Prelude.{take, drop, All, slice_get, Option, None, Some, codes}
use Rattle.std.specs.List.{flat_map}
use Rattle.cy_msg.specs.Quoted.{quoted}
use Rattle.cy_fuse.specs.Fusion.{Arrival}
use Rattle.cy_comp.specs.declared.plan.Plan.{Plan}
use Rattle.cy_comp.specs.Calls.{cursor_after}
use Rattle.wake_core.specs.Run.{Run, routes_of, played_of}
use Rattle.cy_trace_text.specs.declared.parts.Part.{Part}
use Rattle.cy_trace_text.specs.declared.parts.Part.TheVariants.{Head, Opening, Calls, Ending, Tape}
use Rattle.cy_trace.specs.LineParts.{version_of, told, told_text}
use Rattle.cy_trace_text.specs.TraceText.{title, played_line, roles_text}
use Rattle.cy_trace_text.specs.TraceText.{call_lines, end_line, tape_line, trace_text}

-- What a trace has of a component before its calls.
abbrev pub opening_text : (version : ℕ) → Plan → (roles : List ℕ) → List ℕ
opening_text version p roles =
    codes "component " ++ quoted true p.name ++ told_text (told version p.overflow) ++ codes "\n"
    ++ codes "roles " ++ roles_text roles ++ codes "\n"

-- The same of a component that may not be there.
abbrev pub opening_of : (version : ℕ) → Option Plan → List Arrival → List ℕ
opening_of version None arrivals = []
opening_of version (Some p) arrivals =
    opening_text version p (map (λ (a : Arrival). a.0) arrivals)

-- The text of a part of a run's trace.
abbrev pub part_text : List (List ℕ) → List Plan → ℕ → Run → Part → List ℕ
part_text names plans shadowed w Head = title (version_of plans)
    ++ played_line (length (played_of (routes_of plans) w.tape)) shadowed
part_text names plans shadowed w (Opening c) =
    opening_of (version_of plans) (slice_get plans c) (w.arrivals c)
part_text names plans shadowed w (Calls c from count before) =
    call_lines before (take count (drop from (w.calls c)))
part_text names plans shadowed w (Ending c) = end_line (w.ended c) (cursor_after (w.calls c))
part_text names plans shadowed w (Tape from count) =
    flat_map (tape_line names) (take count (drop from w.tape))

abbrev pub parts_text : List (List ℕ) → List Plan → ℕ → Run → List Part → List ℕ
parts_text names plans shadowed w parts = flat_map (part_text names plans shadowed w) parts

-- A part is within the run: its component, calls and messages are there, and its outputs can be
-- numbered.
abbrev pub IsPartOf : List Plan → Run → Part → Type 0
IsPartOf plans w Head = ⊤
IsPartOf plans w (Opening c) = c < length plans
IsPartOf plans w (Calls c from count before) = (c < length plans)
    × (from + count ≤ length (w.calls c)) × (before + count < 2 ^ 64)
IsPartOf plans w (Ending c) = c < length plans
IsPartOf plans w (Tape from count) = from + count ≤ length w.tape

-- These parts, one behind another, are the trace of a run.
pub record ArePartsOf (names : List (List ℕ)) (plans : List Plan) (w : Run) (parts : List Part)
    : Type 0 where
  pub fit : All (IsPartOf plans w) parts
  pub whole : (shadowed : ℕ) → parts_text names plans shadowed w parts
      ≡ trace_text names plans shadowed w
