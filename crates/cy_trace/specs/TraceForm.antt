-- The text of a trace, line by line.
use Rattle.std.specs.Prelude.{ℕ, ℤ, pos, negsuc, ◌≡◌, ◌+◌, ◌<◌, ◌≤◌, ◌==◌, ◌||◌, Bool, true, List}
use Rattle.std.specs.Prelude.{[], ◌∷◌, ◌++◌, length, take, map, Option, Some, None}
use Rattle.std.specs.Prelude.{if◌then◌else◌, codes, ◌⊎◌, Result, IfOk, IfErr}
use Rattle.std.specs.List.{flat_map}
use Rattle.std.specs.Fmt.{decimal}
use Rattle.std.specs.Str.{IsUtf8}
use Rattle.cy_msg.specs.Quoted.{quoted}
use Rattle.cy_fuse.specs.declared.overflow.Overflow.TheVariants.{Newest}
use Rattle.cy_trace.specs.LineParts.{value_text, told, told_text}
use Rattle.cy_trace.specs.declared.error.TraceError.{TraceError}
use Rattle.cy_trace.specs.declared.error.TraceError.TheVariants as trace_error
use Rattle.cy_trace.specs.declared.trace.TraceOutput.{TraceOutput}
use Rattle.cy_trace.specs.declared.trace.TraceComponent.{TraceComponent}
use Rattle.cy_trace.specs.declared.trace.Trace.{Trace}
use Rattle.cy_trace.specs.declared.line.Line.{Line}
use Rattle.cy_trace.specs.declared.line.Line.TheVariants.{Title, Played, Component, Roles, Call}
use Rattle.cy_trace.specs.declared.line.Line.TheVariants.{End, Tape}

-- What a call put out: a dash, or its number, its time and its value.
abbrev pub output_text : Option TraceOutput → List ℕ
output_text None = codes "-"
output_text (Some out) = decimal out.seq ++ codes "@" ++ decimal out.time ++ value_text out.value

-- The numbers of a call's messages, each behind a space.
abbrev pub numbers_text : List ℕ → List ℕ
numbers_text seqs = flat_map (λ n. codes " " ++ decimal n) seqs

-- A digit for each role; a dash where there is none.
abbrev pub digits_text : List ℕ → List ℕ
digits_text [] = codes "-"
digits_text (r ∷ roles) = map (λ n. 48 + n) (r ∷ roles)

abbrev pub state_text : Bool → List ℕ
state_text finished = if finished then codes "FINISHED" else codes "DATA_WAIT"

-- A line, without its newline.
unfoldable pub line_text : Line → List ℕ
line_text (Title version) = codes "cyber-trace " ++ decimal version
line_text (Played played shadowed) = codes "played " ++ decimal played ++ codes " shadowed "
    ++ decimal shadowed
line_text (Component name told) = codes "component " ++ quoted true name ++ told_text told
line_text (Roles roles) = codes "roles " ++ digits_text roles
line_text (Call x) = codes "call " ++ decimal x.position ++ codes "/" ++ decimal x.tail
    ++ numbers_text x.seqs ++ codes " " ++ output_text x.out
line_text (End finished next) = codes "end " ++ state_text finished ++ codes " next "
    ++ decimal next
line_text (Tape entry) = codes "tape " ++ quoted true entry.name ++ codes " " ++ decimal entry.seq

abbrev pub whole_line : Line → List ℕ
whole_line line = line_text line ++ 10 ∷ []

-- The lines of a component: its name and its overflow, its arrivals, its calls, and its end.
abbrev pub lines_of_component : (version : ℕ) → TraceComponent → List Line
lines_of_component version c = Component c.name (told version c.overflow) ∷ Roles c.roles
    ∷ map Call c.calls ++ End c.finished c.next ∷ []

-- The lines of a trace: the title, the counts, the components, and the tape.
abbrev pub lines_of_trace : Trace → List Line
lines_of_trace t = Title t.version ∷ Played t.played t.shadowed
    ∷ flat_map (lines_of_component t.version) t.components ++ map Tape t.tape

-- The text of a trace.
unfoldable pub text_of_trace : Trace → List ℕ
text_of_trace t = flat_map whole_line (lines_of_trace t)

-- Numbers of 32 bits, and of 64.
abbrev pub IsShort : ℕ → Type 0
IsShort n = n ≤ 4294967295

abbrev pub IsLong : ℕ → Type 0
IsLong n = n ≤ 18446744073709551615

abbrev pub IsLongSigned : ℤ → Type 0
IsLongSigned (pos n) = n ≤ 9223372036854775807
IsLongSigned (negsuc n) = n ≤ 9223372036854775807

abbrev pub Each : (ℕ → Type 0) → List ℕ → Type 0
Each P [] = Unit {0}
Each P (n ∷ ns) = P n × Each P ns

abbrev pub IsValue : Option ℤ → Type 0
IsValue None = Unit {0}
IsValue (Some value) = IsLongSigned value

abbrev pub IsOutput : Option TraceOutput → Type 0
IsOutput None = Unit {0}
IsOutput (Some out) = IsShort out.seq × (IsLong out.time × IsValue out.value)

abbrev pub IsSeqs : List ℕ → Type 0
IsSeqs seqs = Each IsShort seqs × (0 < length seqs) × (length seqs ≤ 4)

-- The versions of the form.
abbrev pub is_version : ℕ → Bool
is_version version = version == 1 || version == 2

-- A title has a version of the form, every number of a line fits its type, a call has one to four
-- messages, a role is one digit, and a name is a text.
abbrev pub IsLine : Line → Type 0
IsLine (Title version) = is_version version ≡ true
IsLine (Played played shadowed) = IsShort played × IsShort shadowed
IsLine (Component name told) = IsUtf8 name
IsLine (Roles roles) = Each (λ r. r < 10) roles
IsLine (Call x) = (IsLong x.position × IsLong x.tail) × (IsSeqs x.seqs × IsOutput x.out)
IsLine (End finished next) = IsLong next
IsLine (Tape entry) = IsUtf8 entry.name × IsShort entry.seq

abbrev pub AreLines : List Line → Type 0
AreLines [] = Unit {0}
AreLines (line ∷ lines) = IsLine line × AreLines lines

-- Nothing is told of a component in the first version, so there it goes on at the newest tuple.
abbrev pub AreOfVersion : (version : ℕ) → List TraceComponent → Type 0
AreOfVersion version [] = Unit {0}
AreOfVersion version (c ∷ cs) = (version ≡ 1 → c.overflow ≡ Newest) × AreOfVersion version cs

-- The values that a trace may have.
unfoldable pub IsTrace : Trace → Type 0
IsTrace t = AreLines (lines_of_trace t) × AreOfVersion t.version t.components

-- A text of the form.
abbrev pub IsTraceText : List ℕ → Type 0
IsTraceText text = (t : Trace) × IsTrace t × (text ≡ text_of_trace t)

abbrev pub onto_line : ℕ → List (List ℕ) → List (List ℕ)
onto_line b [] = (b ∷ []) ∷ []
onto_line b (line ∷ lines) = (b ∷ line) ∷ lines

-- A text cut behind each newline. Its last line may lack one.
unfoldable pub cut_lines : List ℕ → List (List ℕ)
cut_lines [] = []
cut_lines (b ∷ bytes) = if b == 10 then (b ∷ []) ∷ cut_lines bytes else onto_line b
    (cut_lines bytes)

-- These lines are the first ones of a text of the form.
abbrev pub IsPrefix : List (List ℕ) → Type 0
IsPrefix lines = (t : Trace) × (rest : List (List ℕ)) × IsTrace t
    × (map whole_line (lines_of_trace t) ≡ lines ++ rest)

-- So many lines are the first ones of a text of the form, and with the next one they are of none;
-- where there is no next one, the text ends too early.
pub record IsFirstBad (text : List ℕ) (before : ℕ) : Type 0 where
  pub there : before ≤ length (cut_lines text)
  pub prefix : IsPrefix (take before (cut_lines text))
  pub bad : before < length (cut_lines text) → ¬ (IsPrefix (take (before + 1) (cut_lines text)))
  pub early : before ≡ length (cut_lines text) → ¬ (IsTraceText text)

-- What reading a text answers: the trace whose text it is, or the first line with which it begins
-- no trace's text. A trace's text is read as that trace, but for want of memory.
pub record ReadsTrace (bytes : List ℕ) (result : Result Trace TraceError) : Type 0 where
  pub text : IfOk result (λ t. IsTrace t × (bytes ≡ text_of_trace t))
  pub bad : IfErr result (λ e. (e ≡ trace_error.Memory)
      ⊎ ((before : ℕ) × (e ≡ trace_error.Bad (before + 1)) × IsFirstBad bytes before))
  pub back : (t : Trace) → IsTrace t → bytes ≡ text_of_trace t → IfOk result (λ u. u ≡ t)
  pub memory : (t : Trace) → IsTrace t → bytes ≡ text_of_trace t
      → IfErr result (λ e. e ≡ trace_error.Memory)
