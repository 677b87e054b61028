-- The trace of a run, as text: what was played, each component's arrivals and calls, and the tape.
use Rattle.std.specs.Prelude.{ℕ, ◌+◌, Bool, true, if◌then◌else◌, is_some, List, []}
use Rattle.std.specs.Prelude.{◌∷◌, ◌++◌, length, map, Option, Some, None, codes}
use Rattle.std.specs.List.{flat_map}
use Rattle.std.specs.Fmt.{decimal}
use Rattle.cy_msg.specs.Names.{channel_name}
use Rattle.cy_msg.specs.Quoted.{quoted}
use Rattle.cy_msg.specs.Tuple.{messages_of}
use Rattle.cy_msg.specs.declared.token.Token.{Token}
use Rattle.cy_msg.specs.declared.token.Tuple.{Tuple}
use Rattle.cy_fuse.specs.Fusion.{Arrival}
use Rattle.cy_comp.specs.declared.call.Call.{Call}
use Rattle.cy_comp.specs.declared.call.Out.{Out}
use Rattle.cy_comp.specs.declared.plan.Plan.{Plan}
use Rattle.cy_comp.specs.Calls.{cursor_after}
use Rattle.wake_core.specs.Run.{Run, routes_of, played_of}
use Rattle.cy_trace.specs.LineParts.{version_of, told, told_text, value_text}

-- The first line: the form's name and version.
abbrev pub title : (version : ℕ) → List ℕ
title version = codes "cyber-trace " ++ decimal version ++ codes "\n"

abbrev pub played_line : (played shadowed : ℕ) → List ℕ
played_line played shadowed = codes "played " ++ decimal played ++ codes " shadowed "
    ++ decimal shadowed ++ codes "\n"

-- A digit for each arrival, its role; a dash where there is none.
abbrev pub roles_text : (roles : List ℕ) → List ℕ
roles_text [] = codes "-"
roles_text (r ∷ rest) = map (λ n. 48 + n) (r ∷ rest)

-- What a call put out, behind so many earlier outputs: a dash, or its number, its time and its
-- value.
abbrev pub out_text : ℕ → Option Out → List ℕ
out_text before None = codes "-"
out_text before (Some out) = decimal (before + 1) ++ codes "@" ++ decimal out.time
    ++ value_text out.whole

abbrev pub seqs_text : Tuple → List ℕ
seqs_text tuple = flat_map (λ (m : Token). codes " " ++ decimal m.seq) (messages_of tuple)

-- A call: its position and tail, the numbers of its messages, and its output.
abbrev pub call_line : ℕ → Call → List ℕ
call_line before x =
    codes "call " ++ decimal x.position ++ codes "/" ++ decimal x.tail ++ seqs_text x.tuple
    ++ codes " " ++ out_text before x.out ++ codes "\n"

-- Calls, behind so many outputs of earlier calls.
abbrev pub call_lines : ℕ → List Call → List ℕ
call_lines before [] = []
call_lines before (x ∷ rest) = call_line before x
    ++ call_lines (before + (if is_some x.out then 1 else 0)) rest

-- Whether the component has ended, and where its next fetch would begin.
abbrev pub end_line : (ended : Bool) → (next : ℕ) → List ℕ
end_line ended next = codes "end " ++ (if ended then codes "FINISHED" else codes "DATA_WAIT")
    ++ codes " next " ++ decimal next ++ codes "\n"

-- A component at which messages came to these readers.
abbrev pub component_with : (version : ℕ) → Plan → (roles : List ℕ) → List Call → (ended : Bool)
    → List ℕ
component_with version p roles calls ended =
    codes "component " ++ quoted true p.name ++ told_text (told version p.overflow) ++ codes "\n"
    ++ codes "roles " ++ roles_text roles ++ codes "\n"
    ++ call_lines 0 calls ++ end_line ended (cursor_after calls)

-- A component, by all that arrived.
abbrev pub component_text : (version : ℕ) → Plan → List Arrival → List Call → (ended : Bool)
    → List ℕ
component_text version p arrivals calls ended =
    component_with version p (map (λ (a : Arrival). a.0) arrivals) calls ended

-- The components from a number on.
abbrev pub components_text : (version : ℕ) → Run → ℕ → List Plan → List ℕ
components_text version w c [] = []
components_text version w c (p ∷ rest) =
    component_text version p (w.arrivals c) (w.calls c) (w.ended c)
    ++ components_text version w (c + 1) rest

abbrev pub tape_line : List (List ℕ) → Token → List ℕ
tape_line names t = codes "tape " ++ quoted true (channel_name names t.channel) ++ codes " "
    ++ decimal t.seq ++ codes "\n"

-- The trace of a run of these components over these channels, beside which so many messages were
-- shadowed.
unfoldable pub trace_text : List (List ℕ) → List Plan → ℕ → Run → List ℕ
trace_text names plans shadowed w =
    title (version_of plans) ++ played_line (length (played_of (routes_of plans) w.tape)) shadowed
    ++ components_text (version_of plans) w 0 plans ++ flat_map (tape_line names) w.tape
