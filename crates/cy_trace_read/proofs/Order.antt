-- The lines so far, and those of a whole trace.
use Rattle.std.proofs.Common.{ℕ, ◌≡◌, ◌==◌, Bool, true, false, List, [], ◌∷◌, ◌++◌, map, Option, Some, None, option_map, refl, ap, sym, subst, ◌∙◌, arith, append_assoc}
use Rattle.std.proofs.lemmas.List.{append-nil}
use Rattle.std.proofs.lemmas.List.Concat.{flat_map-append}
use Rattle.std.proofs.lemmas.Option.{none-some, same_Some}
use Rattle.cy_trace.proofs.CutLaws.{mapped_some}
use Rattle.std.specs.Option.{option_and_then}
use Rattle.std.proofs.lemmas.Bool.{eqb-true, eqb-false}
use Rattle.cy_fuse.specs.declared.overflow.Overflow.{Overflow}
use Rattle.cy_fuse.specs.declared.overflow.Overflow.TheVariants.{Newest}
use Rattle.cy_trace.specs.LineParts.{told}
use Rattle.std.specs.List.{flat_map}
use Rattle.cy_trace_read.specs.LineOrder.{after_line, component_with, finish, overflow_by, trace_with, with_components}
use Rattle.cy_trace.specs.TraceForm.{AreLines, AreOfVersion, lines_of_component, lines_of_trace}
use Rattle.cy_trace.specs.declared.trace.TraceCall.{TraceCall}
use Rattle.cy_trace.specs.declared.trace.TraceComponent.{TraceComponent}
use Rattle.cy_trace.specs.declared.trace.TapeEntry.{TapeEntry}
use Rattle.cy_trace.specs.declared.trace.Trace.{Trace}
use Rattle.cy_trace.specs.declared.line.Line.{Line}
use Rattle.cy_trace.specs.declared.line.Line.TheVariants.{Title, Played, Component, Roles, Call, End, Tape}
use Rattle.cy_trace_read.specs.declared.building.Building.{Building}
use Rattle.cy_trace_read.specs.declared.building.Prefix.{Prefix}
use Rattle.cy_trace_read.specs.declared.building.Building.TheVariants.{Start, Titled, Between, Named, Called, Taped}

-- no component yet, and these components
abbrev pub opened : ℕ → ℕ → ℕ → Prefix
opened v p s = record { version = v; played = p; shadowed = s; components = [] }

abbrev pub holding : Prefix → List TraceComponent → Prefix
holding prefix components = record { version = prefix.version; played = prefix.played; shadowed = prefix.shadowed; components = components }

-- the lines that were read
abbrev pub prefix_lines : Prefix → List Line
prefix_lines prefix = Title prefix.version ∷ Played prefix.played prefix.shadowed ∷ flat_map (lines_of_component prefix.version) prefix.components

abbrev pub lines_so_far : Building → List Line
lines_so_far Start = []
lines_so_far (Titled v) = Title v ∷ []
lines_so_far (Between prefix) = prefix_lines prefix
lines_so_far (Named prefix n o) = prefix_lines prefix ++ Component n (told prefix.version o) ∷ []
lines_so_far (Called prefix n o rs xs) = prefix_lines prefix ++ Component n (told prefix.version o) ∷ Roles rs ∷ map Call xs
lines_so_far (Taped prefix es) = prefix_lines prefix ++ map Tape es

-- where a component goes on by what is told of it, and what is told of it by where it goes on
abbrev pub Suits : ℕ → Overflow → Type 0
Suits version o = version ≡ 1 → o ≡ Newest

told_by : (first : Bool) (v : ℕ) (t : Option Overflow) (o : Overflow) → first ≡ v == 1 → overflow_by v t ≡ Some o → (t ≡ told v o) × Suits v o
told_by true v None o is h = let first : v == 1 ≡ true = sym is in let e = same_Some Newest o (rw first at h) in (rw first refl, λ _. sym e)
told_by true v (Some p) o is h = let first : v == 1 ≡ true = sym is in absurd (none-some o (rw first at h))
told_by false v None o is h = let later : v == 1 ≡ false = sym is in absurd (none-some o (rw later at h))
told_by false v (Some p) o is h =
    let later : v == 1 ≡ false = sym is in
    let e = same_Some p o (rw later at h) in
    (rw (later, e) refl, λ one. absurd (eqb-false v 1 later one))

told_of : (v : ℕ) (t : Option Overflow) (o : Overflow) → overflow_by v t ≡ Some o → (t ≡ told v o) × Suits v o
told_of v t o h = told_by (v == 1) v t o refl h

known_by : (first : Bool) (v : ℕ) (o : Overflow) → first ≡ v == 1 → Suits v o → overflow_by v (told v o) ≡ Some o
known_by true v o is suits =
    let first : v == 1 ≡ true = sym is in
    let newest : o ≡ Newest = suits (eqb-true v 1 first) in
    rw first (rw first (rw newest refl))
known_by false v o is suits = let later : v == 1 ≡ false = sym is in rw later (rw later refl)

overflow_known : (v : ℕ) (o : Overflow) → Suits v o → overflow_by v (told v o) ≡ Some o
overflow_known v o suits = known_by (v == 1) v o refl suits

-- what was told suits the version
abbrev pub IsOfVersion : Building → Type 0
IsOfVersion Start = Unit {0}
IsOfVersion (Titled v) = Unit {0}
IsOfVersion (Between prefix) = AreOfVersion prefix.version prefix.components
IsOfVersion (Named prefix n o) = AreOfVersion prefix.version prefix.components × Suits prefix.version o
IsOfVersion (Called prefix n o rs xs) = AreOfVersion prefix.version prefix.components × Suits prefix.version o
IsOfVersion (Taped prefix es) = AreOfVersion prefix.version prefix.components

of_version-append : (v : ℕ) (cs ds : List TraceComponent) → AreOfVersion v cs → AreOfVersion v ds → AreOfVersion v (cs ++ ds)
of_version-append v [] ds h k = k
of_version-append v (c ∷ cs) ds h k = (h.0, of_version-append v cs ds h.1 k)

abbrev pub run : Building → List Line → Option Building
run b [] = Some b
run b (l ∷ ls) = option_and_then (λ (c : Building). run c ls) (after_line b l)

and_then_both : {A B C : Type 0} (f : B → Option C) (g : A → Option B) (o : Option A)
    → option_and_then f (option_and_then g o) ≡ option_and_then (λ (x : A). option_and_then f (g x)) o
and_then_both f g None = refl
and_then_both f g (Some x) = refl

and_then_same : {A B : Type 0} (f g : A → Option B) (o : Option A) → ((x : A) → f x ≡ g x) → option_and_then f o ≡ option_and_then g o
and_then_same f g None h = refl
and_then_same f g (Some x) h = h x

pub run-append : (b : Building) (xs ys : List Line) → run b (xs ++ ys) ≡ option_and_then (λ (c : Building). run c ys) (run b xs)
run-append b [] ys = refl
run-append b (x ∷ xs) ys =
    and_then_same (λ (c : Building). run c (xs ++ ys)) (λ (c : Building). option_and_then (λ (d : Building). run d ys) (run c xs)) (after_line b x) (λ c. run-append c xs ys)
    ∙ sym (and_then_both (λ (d : Building). run d ys) (λ (c : Building). run c xs) (after_line b x))

map_push : {A B : Type 0} (f : A → B) (xs : List A) (x : A) → map f (xs ++ x ∷ []) ≡ map f xs ++ f x ∷ []
map_push f [] x = refl
map_push f (y ∷ ys) x = ap (λ zs. f y ∷ zs) (map_push f ys x)

-- a component with all its lines
component_added : (prefix : Prefix) (c : TraceComponent) → prefix_lines (with_components prefix (c ∷ [])) ≡ prefix_lines prefix ++ lines_of_component prefix.version c
component_added prefix c =
    ap (λ (ls : List Line). Title prefix.version ∷ Played prefix.played prefix.shadowed ∷ ls)
    (flat_map-append (lines_of_component prefix.version) prefix.components (c ∷ []) ∙ ap (λ (ls : List Line). flat_map (lines_of_component prefix.version) prefix.components ++ ls) (append-nil (lines_of_component prefix.version c)))

call_added : (prefix : List Line) (n : List ℕ) (o : Option Overflow) (rs : List ℕ) (xs : List TraceCall) (x : TraceCall)
    → prefix ++ Component n o ∷ Roles rs ∷ map Call (xs ++ x ∷ []) ≡ (prefix ++ Component n o ∷ Roles rs ∷ map Call xs) ++ Call x ∷ []
call_added prefix n o rs xs x = rw (map_push Call xs x) (simp append_assoc)

-- a line that may come next is one more of the lines so far
named_adds : (prefix : Prefix) (c : Building) (n : List ℕ) (t : Option Overflow) → option_map (λ (o : Overflow). Named prefix n o) (overflow_by prefix.version t) ≡ Some c
    → (o : Overflow) × (Named prefix n o ≡ c) × (t ≡ told prefix.version o) × Suits prefix.version o
named_adds prefix c n t h =
    let m = mapped_some (λ (o : Overflow). Named prefix n o) (overflow_by prefix.version t) c h in
    let k = told_of prefix.version t m.0 m.1 in
    (m.0, m.2, k.0, k.1)

pub step_adds : (b c : Building) (l : Line) → after_line b l ≡ Some c → lines_so_far c ≡ lines_so_far b ++ l ∷ []
unfolding after_line
step_adds Start c (Title v) h = let e = same_Some (Titled v) c h in rw (← e) refl
step_adds (Titled v) c (Played p s) h = let e = same_Some (Between (opened v p s)) c h in rw (← e) refl
step_adds (Between prefix) c (Component n t) h =
    let k = named_adds prefix c n t h in rw (← k.1) (ap (λ (u : Option Overflow). prefix_lines prefix ++ Component n u ∷ []) (sym k.2))
step_adds (Between prefix) c (Tape t) h = let e = same_Some (Taped prefix (t ∷ [])) c h in rw (← e) refl
step_adds (Named prefix n o) c (Roles rs) h = let e = same_Some (Called prefix n o rs []) c h in rw (← e) (simp append_assoc)
step_adds (Called prefix n o rs xs) c (Call x) h =
    let e = same_Some (Called prefix n o rs (xs ++ x ∷ [])) c h in rw (← e) (call_added (prefix_lines prefix) n (told prefix.version o) rs xs x)
step_adds (Called prefix n o rs xs) c (End f i) h =
    let d = component_with n o rs xs f i in
    let e = same_Some (Between (with_components prefix (d ∷ []))) c h in
    rw (← e) (component_added prefix d ∙ sym (append_assoc (prefix_lines prefix) (Component n (told prefix.version o) ∷ Roles rs ∷ map Call xs) (End f i ∷ [])))
step_adds (Taped prefix es) c (Tape t) h =
    let e = same_Some (Taped prefix (es ++ t ∷ [])) c h in
    rw (← e) (ap (λ (ls : List Line). prefix_lines prefix ++ ls) (map_push Tape es t) ∙ sym (append_assoc (prefix_lines prefix) (map Tape es) (Tape t ∷ [])))
step_adds _ c _ h = absurd (none-some c h)

-- and suits the version as those before it do
pub step_suits : (b c : Building) (l : Line) → after_line b l ≡ Some c → IsOfVersion b → IsOfVersion c
unfolding after_line
step_suits Start c (Title v) h suits = let e = same_Some (Titled v) c h in rw (← e) tt
step_suits (Titled v) c (Played p s) h suits = let e = same_Some (Between (opened v p s)) c h in rw (← e) tt
step_suits (Between prefix) c (Component n t) h suits = let k = named_adds prefix c n t h in rw (← k.1) (suits, k.3)
step_suits (Between prefix) c (Tape t) h suits = let e = same_Some (Taped prefix (t ∷ [])) c h in rw (← e) suits
step_suits (Named prefix n o) c (Roles rs) h suits = let e = same_Some (Called prefix n o rs []) c h in rw (← e) suits
step_suits (Called prefix n o rs xs) c (Call x) h suits = let e = same_Some (Called prefix n o rs (xs ++ x ∷ [])) c h in rw (← e) suits
step_suits (Called prefix n o rs xs) c (End f i) h suits =
    let d = component_with n o rs xs f i in
    let e = same_Some (Between (with_components prefix (d ∷ []))) c h in
    rw (← e) (of_version-append prefix.version prefix.components (d ∷ []) suits.0 (suits.1, tt))
step_suits (Taped prefix es) c (Tape t) h suits = let e = same_Some (Taped prefix (es ++ t ∷ [])) c h in rw (← e) suits
step_suits _ c _ h suits = absurd (none-some c h)

-- the lines of a trace, read from the first one on
calls_run : (prefix : Prefix) (n : List ℕ) (o : Overflow) (rs : List ℕ) (xs ys : List TraceCall) (f : Bool) (i : ℕ) (rest : List Line)
    → run (Called prefix n o rs xs) ((map Call ys ++ End f i ∷ []) ++ rest) ≡ run (Between (with_components prefix (component_with n o rs (xs ++ ys) f i ∷ []))) rest
unfolding after_line
calls_run prefix n o rs xs [] f i rest =
    ap (λ (zs : List TraceCall). run (Between (with_components prefix (component_with n o rs zs f i ∷ []))) rest) (sym (append-nil xs))
calls_run prefix n o rs xs (y ∷ ys) f i rest =
    calls_run prefix n o rs (xs ++ y ∷ []) ys f i rest
    ∙ ap (λ (zs : List TraceCall). run (Between (with_components prefix (component_with n o rs zs f i ∷ []))) rest) (append_assoc xs (y ∷ []) ys)

name_run : (prefix : Prefix) (n : List ℕ) (o : Overflow) (rest : List Line) → Suits prefix.version o → run (Between prefix) (Component n (told prefix.version o) ∷ rest) ≡ run (Named prefix n o) rest
unfolding after_line
name_run prefix n o rest suits =
    ap (λ (p : Option Overflow). option_and_then (λ (c : Building). run c rest) (option_map (λ (q : Overflow). Named prefix n q) p)) (overflow_known prefix.version o suits)

component_run : (prefix : Prefix) (d : TraceComponent) (rest : List Line) → Suits prefix.version d.overflow
    → run (Between prefix) (lines_of_component prefix.version d ++ rest) ≡ run (Between (with_components prefix (d ∷ []))) rest
unfolding after_line
component_run prefix d rest suits =
    name_run prefix d.name d.overflow (Roles d.roles ∷ (map Call d.calls ++ End d.finished d.next ∷ []) ++ rest) suits
    ∙ calls_run prefix d.name d.overflow d.roles [] d.calls d.finished d.next rest

components_run : (prefix : Prefix) (ds : List TraceComponent) (rest : List Line) → AreOfVersion prefix.version ds
    → run (Between prefix) (flat_map (lines_of_component prefix.version) ds ++ rest) ≡ run (Between (with_components prefix ds)) rest
components_run prefix [] rest suits = ap (λ (zs : List TraceComponent). run (Between (holding prefix zs)) rest) (sym (append-nil prefix.components))
components_run prefix (d ∷ ds) rest suits =
    ap (run (Between prefix)) (append_assoc (lines_of_component prefix.version d) (flat_map (lines_of_component prefix.version) ds) rest)
    ∙ component_run prefix d (flat_map (lines_of_component prefix.version) ds ++ rest) suits.0
    ∙ components_run (with_components prefix (d ∷ [])) ds rest suits.1
    ∙ ap (λ (zs : List TraceComponent). run (Between (holding prefix zs)) rest) (append_assoc prefix.components (d ∷ []) ds)

pub tape_run : (prefix : Prefix) (es fs : List TapeEntry) → run (Taped prefix es) (map Tape fs) ≡ Some (Taped prefix (es ++ fs))
unfolding after_line
tape_run prefix es [] = ap (λ (zs : List TapeEntry). Some (Taped prefix zs)) (sym (append-nil es))
tape_run prefix es (f ∷ fs) = tape_run prefix (es ++ f ∷ []) fs ∙ ap (λ (zs : List TapeEntry). Some (Taped prefix zs)) (append_assoc es (f ∷ []) fs)

-- what is built of a whole trace
abbrev pub prefix_of : Trace → Prefix
prefix_of t = record { version = t.version; played = t.played; shadowed = t.shadowed; components = t.components }

abbrev pub built : Trace → Building
built t = elim t.tape [ [] ↦ Between (prefix_of t) | e ∷ es ↦ Taped (prefix_of t) (e ∷ es) ]

end_run : (prefix : Prefix) (es : List TapeEntry)
    → run (Between prefix) (map Tape es) ≡ Some (built (trace_with prefix es))
unfolding after_line
end_run prefix [] = refl
end_run prefix (e ∷ es) = tape_run prefix (e ∷ []) es

pub run_trace : (t : Trace) → AreOfVersion t.version t.components → run Start (lines_of_trace t) ≡ Some (built t)
unfolding after_line
run_trace t suits = components_run (opened t.version t.played t.shadowed) t.components (map Tape t.tape) suits ∙ end_run (prefix_of t) t.tape

finish_by : (prefix : Prefix) (es : List TapeEntry)
    → finish (built (trace_with prefix es)) ≡ Some (trace_with prefix es)
unfolding finish
finish_by prefix [] = refl
finish_by prefix (e ∷ es) = refl

pub finish_built : (t : Trace) → finish (built t) ≡ Some t
finish_built t = finish_by (prefix_of t) t.tape

pub finished_lines : (b : Building) (t : Trace) → finish b ≡ Some t → lines_of_trace t ≡ lines_so_far b
unfolding finish
finished_lines (Between prefix) t h =
    let e = same_Some (trace_with prefix []) t h in subst (λ (u : Trace). lines_of_trace u ≡ prefix_lines prefix) e (append-nil (prefix_lines prefix))
finished_lines (Taped prefix es) t h =
    let e = same_Some (trace_with prefix es) t h in subst (λ (u : Trace). lines_of_trace u ≡ prefix_lines prefix ++ map Tape es) e refl
finished_lines _ t h = absurd (none-some t h)

pub finished_suits : (b : Building) (t : Trace) → finish b ≡ Some t → IsOfVersion b → AreOfVersion t.version t.components
unfolding finish
finished_suits (Between prefix) t h suits = let e = same_Some (trace_with prefix []) t h in rw (← e) suits
finished_suits (Taped prefix es) t h suits = let e = same_Some (trace_with prefix es) t h in rw (← e) suits
finished_suits _ t h suits = absurd (none-some t h)

-- every place can be continued to a whole trace
abbrev Continues : Building → Type 0
Continues b = (t : Trace) × (rest : List Line) × (lines_of_trace t ≡ lines_so_far b ++ rest) × AreLines rest × AreOfVersion t.version t.components

-- a component that ends at once, with no call more
abbrev at_once : List ℕ → Overflow → List ℕ → List TraceCall → TraceComponent
at_once n o rs xs = component_with n o rs xs false 0

ended : (prefix : Prefix) (d : TraceComponent) (before rest : List Line) → prefix_lines prefix ++ lines_of_component prefix.version d ≡ before ++ rest
    → lines_of_trace (trace_with (with_components prefix (d ∷ [])) []) ≡ before ++ rest
ended prefix d before rest h = append-nil (prefix_lines (with_components prefix (d ∷ []))) ∙ component_added prefix d ∙ h

ended_suits : (prefix : Prefix) (d : TraceComponent) → AreOfVersion prefix.version prefix.components → Suits prefix.version d.overflow → AreOfVersion prefix.version (prefix.components ++ d ∷ [])
ended_suits prefix d suits last = of_version-append prefix.version prefix.components (d ∷ []) suits (last, tt)

pub continues : (b : Building) → IsOfVersion b → Continues b
continues Start suits = (record { version = 1; played = 0; shadowed = 0; components = []; tape = [] }, Title 1 ∷ Played 0 0 ∷ [], refl, (refl, ((omega arith, omega arith), tt)), tt)
continues (Titled v) suits = (record { version = v; played = 0; shadowed = 0; components = []; tape = [] }, Played 0 0 ∷ [], refl, ((omega arith, omega arith), tt), tt)
continues (Between prefix) suits = (trace_with prefix [], [], refl, tt, suits)
continues (Named prefix n o) suits =
    let d = at_once n o [] [] in (
      trace_with (with_components prefix (d ∷ [])) [],
      Roles [] ∷ End false 0 ∷ [],
      ended prefix d (prefix_lines prefix ++ Component n (told prefix.version o) ∷ []) (Roles [] ∷ End false 0 ∷ [])
          (sym (append_assoc (prefix_lines prefix) (Component n (told prefix.version o) ∷ []) (Roles [] ∷ End false 0 ∷ []))),
      (tt, (omega arith, tt)),
      ended_suits prefix d suits.0 suits.1,
    )
continues (Called prefix n o rs xs) suits =
    let d = at_once n o rs xs in (
      trace_with (with_components prefix (d ∷ [])) [],
      End false 0 ∷ [],
      ended prefix d (prefix_lines prefix ++ Component n (told prefix.version o) ∷ Roles rs ∷ map Call xs) (End false 0 ∷ [])
          (sym (append_assoc (prefix_lines prefix) (Component n (told prefix.version o) ∷ Roles rs ∷ map Call xs) (End false 0 ∷ []))),
      (omega arith, tt),
      ended_suits prefix d suits.0 suits.1,
    )
continues (Taped prefix es) suits = (trace_with prefix es, [], sym (append-nil (prefix_lines prefix ++ map Tape es)), tt, suits)

-- no other line may come next
pub at_start : (l : Line) → ((v : ℕ) → l ≡ Title v → ⊥) → after_line Start l ≡ None
unfolding after_line
at_start (Title v) h = absurd (h v refl)
at_start _ h = refl

pub at_titled : (v : ℕ) (l : Line) → ((p s : ℕ) → l ≡ Played p s → ⊥) → after_line (Titled v) l ≡ None
unfolding after_line
at_titled v (Played p s) h = absurd (h p s refl)
at_titled v _ h = refl

pub at_between : (prefix : Prefix) (l : Line) → ((n : List ℕ) (t : Option Overflow) → l ≡ Component n t → ⊥) → ((e : TapeEntry) → l ≡ Tape e → ⊥) → after_line (Between prefix) l ≡ None
unfolding after_line
at_between prefix (Component n t) h k = absurd (h n t refl)
at_between prefix (Tape e) h k = absurd (k e refl)
at_between prefix _ h k = refl

pub at_named : (prefix : Prefix) (n : List ℕ) (o : Overflow) (l : Line) → ((rs : List ℕ) → l ≡ Roles rs → ⊥) → after_line (Named prefix n o) l ≡ None
unfolding after_line
at_named prefix n o (Roles rs) h = absurd (h rs refl)
at_named prefix n o _ h = refl

pub at_called : (prefix : Prefix) (n : List ℕ) (o : Overflow) (rs : List ℕ) (xs : List TraceCall) (l : Line) → ((x : TraceCall) → l ≡ Call x → ⊥) → ((f : Bool) (i : ℕ) → l ≡ End f i → ⊥)
    → after_line (Called prefix n o rs xs) l ≡ None
unfolding after_line
at_called prefix n o rs xs (Call x) h k = absurd (h x refl)
at_called prefix n o rs xs (End f i) h k = absurd (k f i refl)
at_called prefix n o rs xs _ h k = refl

pub at_taped : (prefix : Prefix) (es : List TapeEntry) (l : Line) → ((e : TapeEntry) → l ≡ Tape e → ⊥) → after_line (Taped prefix es) l ≡ None
unfolding after_line
at_taped prefix es (Tape e) h = absurd (h e refl)
at_taped prefix es _ h = refl
