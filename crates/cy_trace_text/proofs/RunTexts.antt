-- What is written of a run, line by line.
use Rattle.std.proofs.Common.{ℕ, ◌≡◌, ◌+◌, Bool, true, cond, List, [], ◌∷◌, ◌++◌, length, map, codes, is_some, Option, Some, None, refl, ap, sym, ◌∙◌, append_assoc}
use Rattle.std.proofs.lemmas.List.{append-nil}
use Rattle.std.proofs.lemmas.List.Concat.{flat_map-append}
use Rattle.std.specs.List.{flat_map}
use Rattle.std.specs.Fmt.{decimal}
use Rattle.cy_msg.specs.Quoted.{quoted}
use Rattle.cy_msg.specs.Tuple.{messages_of}
use Rattle.cy_msg.specs.declared.token.Token.{Token}
use Rattle.cy_fuse.specs.Fusion.{Arrival}
use Rattle.cy_comp.specs.declared.call.Call.{Call}
use Rattle.cy_comp.specs.declared.call.Out.{Out}
use Rattle.cy_comp.specs.declared.plan.Plan.{Plan}
use Rattle.cy_comp.specs.Calls.{cursor_after}
use Rattle.wake_core.specs.Run.{Run, routes_of, played_of}
use Rattle.cy_trace_text.specs.TraceText.{title, played_line, roles_text, out_text, call_line, call_lines, end_line, component_text, components_text, tape_line, trace_text}
use Rattle.cy_trace.specs.LineParts.{version_of, told, told_text}
use Rattle.cy_trace.specs.TraceForm.{line_text, whole_line, lines_of_component, text_of_trace, numbers_text, digits_text, output_text}
use Rattle.cy_trace.specs.TraceOfRun.{output_of_call, trace_call, trace_calls, trace_component, trace_components, tape_entry, trace_of_run}
use Rattle.cy_trace.specs.declared.line.Line.TheVariants as line

roles_same : (roles : List ℕ) → roles_text roles ≡ digits_text roles
roles_same [] = refl
roles_same (r ∷ rest) = refl

numbers_same : (ms : List Token) → flat_map (λ (m : Token). codes " " ++ decimal m.seq) ms ≡ numbers_text (map (λ (m : Token). m.seq) ms)
numbers_same [] = refl
numbers_same (m ∷ ms) = ap (λ (xs : List ℕ). codes " " ++ decimal m.seq ++ xs) (numbers_same ms)

out_same : (before : ℕ) (o : Option Out) → out_text before o ≡ output_text (output_of_call before o)
out_same before None = refl
out_same before (Some out) = refl

call_same : (before : ℕ) (x : Call) → call_line before x ≡ whole_line (line.Call (trace_call before x))
unfolding line_text
call_same before x =
    ap (λ (ns : List ℕ). codes "call " ++ decimal x.position ++ codes "/" ++ decimal x.tail ++ ns ++ codes " " ++ out_text before x.out ++ codes "\n") (numbers_same (messages_of x.tuple))
    ∙ ap (λ (o : List ℕ). codes "call " ++ decimal x.position ++ codes "/" ++ decimal x.tail ++ numbers_text (map (λ (m : Token). m.seq) (messages_of x.tuple)) ++ codes " " ++ o ++ codes "\n") (out_same before x.out)

calls_same : (before : ℕ) (calls : List Call) → call_lines before calls ≡ flat_map whole_line (map line.Call (trace_calls before calls))
calls_same before [] = refl
calls_same before (x ∷ rest) =
    ap (λ (xs : List ℕ). xs ++ call_lines (before + cond (is_some x.out) 1 0) rest) (call_same before x)
    ∙ ap (λ (xs : List ℕ). whole_line (line.Call (trace_call before x)) ++ xs) (calls_same (before + cond (is_some x.out) 1 0) rest)

joined_component : (prefix name told newline middle roles calls end : List ℕ)
    → prefix ++ name ++ told ++ newline ++ middle ++ roles ++ newline ++ calls ++ end ≡ ((prefix ++ name ++ told) ++ newline) ++ ((middle ++ roles ++ newline) ++ (calls ++ end))
joined_component prefix name told newline middle roles calls end = simp append_assoc

component_same : (version : ℕ) (p : Plan) (arrivals : List Arrival) (calls : List Call) (ended : Bool)
    → component_text version p arrivals calls ended ≡ flat_map whole_line (lines_of_component version (trace_component p arrivals calls ended))
unfolding line_text
component_same version p arrivals calls ended =
    let end = end_line ended (cursor_after calls) in
    let name = (codes "component " ++ quoted true p.name ++ told_text (told version p.overflow)) ++ 10 ∷ [] in
    joined_component (codes "component ") (quoted true p.name) (told_text (told version p.overflow)) (codes "\n") (codes "roles ") (roles_text (map (λ (a : Arrival). a.0) arrivals)) (call_lines 0 calls) end
    ∙ ap (λ (rs : List ℕ). name ++ ((codes "roles " ++ rs ++ 10 ∷ []) ++ (call_lines 0 calls ++ end))) (roles_same (map (λ (a : Arrival). a.0) arrivals))
    ∙ ap (λ (xs : List ℕ). name ++ ((codes "roles " ++ digits_text (map (λ (a : Arrival). a.0) arrivals) ++ 10 ∷ []) ++ xs)) (
    ap (λ (xs : List ℕ). xs ++ end) (calls_same 0 calls)
    ∙ ap (λ (xs : List ℕ). flat_map whole_line (map line.Call (trace_calls 0 calls)) ++ xs) (sym (append-nil end))
    ∙ sym (flat_map-append whole_line (map line.Call (trace_calls 0 calls)) (line.End ended (cursor_after calls) ∷ [])))

components_same : (version : ℕ) (w : Run) (c : ℕ) (plans : List Plan) → components_text version w c plans ≡ flat_map whole_line (flat_map (lines_of_component version) (trace_components w c plans))
components_same version w c [] = refl
components_same version w c (p ∷ rest) =
    let here = lines_of_component version (trace_component p (w.arrivals c) (w.calls c) (w.ended c)) in
    ap (λ (xs : List ℕ). xs ++ components_text version w (c + 1) rest) (component_same version p (w.arrivals c) (w.calls c) (w.ended c))
    ∙ ap (λ (xs : List ℕ). flat_map whole_line here ++ xs) (components_same version w (c + 1) rest)
    ∙ sym (flat_map-append whole_line here (flat_map (lines_of_component version) (trace_components w (c + 1) rest)))

tape_same : (names : List (List ℕ)) (tape : List Token) → flat_map (tape_line names) tape ≡ flat_map whole_line (map line.Tape (map (tape_entry names) tape))
unfolding line_text
tape_same names [] = refl
tape_same names (t ∷ rest) = ap (λ (xs : List ℕ). tape_line names t ++ xs) (tape_same names rest)

head_same : (version played shadowed : ℕ) (rest : List ℕ) → title version ++ played_line played shadowed ++ rest ≡ whole_line (line.Title version) ++ (whole_line (line.Played played shadowed) ++ rest)
unfolding line_text
head_same version played shadowed rest = append_assoc (title version) (played_line played shadowed) rest

pub run_text : (names : List (List ℕ)) (plans : List Plan) (shadowed : ℕ) (w : Run) → trace_text names plans shadowed w ≡ text_of_trace (trace_of_run names plans shadowed w)
unfolding trace_text text_of_trace
run_text names plans shadowed w =
    let version = version_of plans in
    let played = length (played_of (routes_of plans) w.tape) in
    append_assoc (title version ++ played_line played shadowed) (components_text version w 0 plans) (flat_map (tape_line names) w.tape)
    ∙ head_same version played shadowed (components_text version w 0 plans ++ flat_map (tape_line names) w.tape)
    ∙ ap (λ (xs : List ℕ). whole_line (line.Title version) ++ (whole_line (line.Played played shadowed) ++ xs)) (
    ap (λ (xs : List ℕ). xs ++ flat_map (tape_line names) w.tape) (components_same version w 0 plans)
    ∙ ap (λ (xs : List ℕ). flat_map whole_line (flat_map (lines_of_component version) (trace_components w 0 plans)) ++ xs) (tape_same names w.tape)
    ∙ sym (flat_map-append whole_line (flat_map (lines_of_component version) (trace_components w 0 plans)) (map line.Tape (map (tape_entry names) w.tape))))
