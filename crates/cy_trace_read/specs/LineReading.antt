-- What the lines of a trace say.
use Rattle.std.specs.Prelude.{ℕ, ℤ, ◌≡◌, ◌+◌, ◌-◌, ◌*◌, ◌%◌, ◌==◌, ◌&&◌, nat_lt, Bool, true, false}
use Rattle.std.specs.Prelude.{List, [], ◌∷◌, ◌++◌, length, Option, Some, None, option_map}
use Rattle.std.specs.Prelude.{option_to_list, Result, Ok, Err, Vec, if◌then◌else◌, codes}
use Rattle.std.specs.Option.{option_and_then}
use Rattle.std.specs.List.{slice_split}
use Rattle.std.specs.Str.{bytes_eq, is_utf8}
use Rattle.cy_msg.specs.Quoted.{quoted}
use Rattle.cy_fuse.specs.declared.overflow.Overflow.{Overflow}
use Rattle.cy_fuse.specs.declared.overflow.Overflow.TheVariants.{Newest, Oldest}
use Rattle.cy_trace.specs.Cuts.{cut, cut_last, behind, both}
use Rattle.cy_trace_read.specs.Numerals.{number, signed}
use Rattle.cy_trace.specs.TraceForm.{is_version}
use Rattle.cy_trace_read.specs.declared.fault.Fault.{Fault}
use Rattle.cy_trace_read.specs.declared.fault.Fault.TheVariants as fault
use Rattle.cy_trace_read.specs.declared.name.Escape.{Escape}
use Rattle.cy_trace_read.specs.declared.name.Escape.TheVariants.{Outside, Backslash, First, Second}
use Rattle.cy_trace.specs.declared.trace.TraceOutput.{TraceOutput}
use Rattle.cy_trace.specs.declared.trace.TraceCall.{TraceCall}
use Rattle.cy_trace.specs.declared.trace.TapeEntry.{TapeEntry}
use Rattle.cy_trace.specs.declared.line.Line.{Line}
use Rattle.cy_trace.specs.declared.line.Line.TheVariants.{Title, Played, Component, Roles, Call}
use Rattle.cy_trace.specs.declared.line.Line.TheVariants.{End, Tape}

-- What was returned is what the reading says, unless memory ran out.
abbrev pub Gives : {X : Type 0} → Result X Fault → Option X → Type 0
Gives (Ok x) reading = reading ≡ Some x
Gives (Err fault.Bad) reading = reading ≡ None
Gives (Err fault.Memory) reading = Unit {0}

abbrev pub GivesItems : {X Z : Type 0} → Result (Vec X Z) Fault → Option (List X) → Type 0
GivesItems (Ok x) reading = reading ≡ Some x.items
GivesItems (Err fault.Bad) reading = reading ≡ None
GivesItems (Err fault.Memory) reading = Unit {0}

-- Two readings, of what stands before a mark and behind it.
abbrev pub pair : {A B : Type 0} → ℕ → (List ℕ → Option A) → (List ℕ → Option B) → List ℕ
    → Option (A × B)
pair mark first second bytes = option_and_then (λ p. both (first p.0) (second p.1)) (cut mark bytes)

abbrev pub pair_last : {A B : Type 0} → ℕ → (List ℕ → Option A) → (List ℕ → Option B) → List ℕ
    → Option (A × B)
pair_last mark first second bytes = option_and_then (λ p. both (first p.0) (second p.1))
    (cut_last mark bytes)

-- A reading of what stands behind a prefix.
abbrev pub after : {A : Type 0} → List ℕ → (List ℕ → Option A) → List ℕ → Option A
after prefix read bytes = option_and_then read (behind prefix bytes)

abbrev pub short : List ℕ → Option ℕ
short = number 4294967295

abbrev pub long : List ℕ → Option ℕ
long = number 18446744073709551615

-- The position and the tail of a call.
unfoldable pub place : List ℕ → Option (ℕ × ℕ)
place = pair 47 long long

abbrev pub timed_at : List ℕ → Option (List ℕ × List ℕ) → Option (ℕ × Option ℤ)
timed_at bytes None = option_map (λ n. (n, None)) (long bytes)
timed_at bytes (Some p) = both (long p.0) (option_map (λ z. Some z) (signed p.1))

-- A time, and a value where there is one.
unfoldable pub timed : List ℕ → Option (ℕ × Option ℤ)
timed bytes = timed_at bytes (cut 61 bytes)

abbrev pub output_of : ℕ × (ℕ × Option ℤ) → TraceOutput
output_of p = record { seq = p.0; time = p.1.0; value = p.1.1 }

-- What a call put out, or a dash.
unfoldable pub output : List ℕ → Option (Option TraceOutput)
output bytes = if bytes_eq bytes (codes "-") then Some None else option_map
    (λ p. Some (output_of p)) (pair 64 short timed bytes)

abbrev pub numbers : List (List ℕ) → Option (List ℕ)
numbers [] = Some []
numbers (word ∷ words) = option_map (λ p. p.0 ∷ p.1) (both (short word) (numbers words))

-- Words with single spaces between; there may be none.
abbrev pub words_left : Option (List ℕ) → List (List ℕ)
words_left None = []
words_left (Some words) = slice_split (λ b. b == 32) words

-- One to four numbers, with single spaces between.
unfoldable pub seqs : List ℕ → Option (List ℕ)
seqs bytes = option_and_then (λ ns. if nat_lt 4 (length ns) then None else Some ns)
    (numbers (words_left (Some bytes)))

abbrev pub call_of : (ℕ × ℕ) × (List ℕ × Option TraceOutput) → TraceCall
call_of p = record { position = p.0.0; tail = p.0.1; seqs = p.1.0; out = p.1.1 }

unfoldable pub call : List ℕ → Option TraceCall
call bytes = option_map call_of (pair 32 place (pair_last 32 seqs output) bytes)

abbrev pub role : ℕ → Option ℕ
role b = if nat_lt b 48 then None else (if nat_lt b 58 then Some (b - 48) else None)

unfoldable pub digits : List ℕ → Option (List ℕ)
digits [] = Some []
digits (b ∷ bytes) = option_map (λ p. p.0 ∷ p.1) (both (role b) (digits bytes))

-- A digit for each role, or a dash.
unfoldable pub roles : List ℕ → Option (List ℕ)
roles bytes = if bytes_eq bytes (codes "-") then Some [] else
    (if length bytes == 0 then None else digits bytes)

abbrev pub state : List ℕ → Option Bool
state bytes = if bytes_eq bytes (codes "FINISHED") then Some true else
    (if bytes_eq bytes (codes "DATA_WAIT") then Some false else None)

-- How a byte in quotes goes on: outside of an escape, or in one.
unfoldable pub escape_after : Escape → ℕ → Escape
escape_after Outside b = if b == 92 then Backslash else Outside
escape_after Backslash b = if nat_lt b 48 then Outside else
    (if nat_lt b 50 then First b else Outside)
escape_after (First a) b = Second a b
escape_after (Second a b) c = Outside

-- The byte that an escape stands for which ends here.
unfoldable pub byte_at : Escape → ℕ → Option ℕ
byte_at Outside b = if b == 92 then None else (if b == 34 then None else Some b)
byte_at Backslash b =
    if b == 110 then Some 10 else (if b == 116 then Some 9 else (if b == 114 then Some 13
    else (if nat_lt b 48 then Some b else (if nat_lt b 50 then None else Some b))))
byte_at (First a) b = None
byte_at (Second a b) c = Some (a % 2 * 64 + b % 8 * 8 + c % 8)

abbrev pub unquoted_from : Escape → List ℕ → List ℕ
unquoted_from escape [] = []
unquoted_from escape (b ∷ bytes) = option_to_list (byte_at escape b) ++ unquoted_from
    (escape_after escape b) bytes

-- What quotes are around, with the bytes that escapes stand for.
unfoldable pub unquoted : List ℕ → List ℕ
unquoted bytes = unquoted_from Outside bytes

-- The name which these bytes are in quotes.
unfoldable pub name : List ℕ → Option (List ℕ)
name bytes = let text = unquoted bytes in if is_utf8 text && bytes_eq bytes
    (quoted true text) then Some text else None

-- The version of the form.
abbrev pub version : List ℕ → Option ℕ
version bytes = option_and_then (λ n. if is_version n then Some n else None) (short bytes)

unfoldable pub title : List ℕ → Option Line
title bytes = option_map Title (version bytes)

abbrev pub overflow : List ℕ → Option Overflow
overflow bytes = if bytes_eq bytes (codes "NEWEST") then Some Newest else
    (if bytes_eq bytes (codes "OLDEST") then Some Oldest else None)

-- What stands before the last word, where that is `overflow`.
abbrev pub before_overflow : List ℕ → Option (List ℕ)
before_overflow bytes = option_and_then
    (λ p. if bytes_eq p.1 (codes "overflow") then Some p.0 else None) (cut_last 32 bytes)

-- The overflow that is told at the end, and what stands before it. A name in quotes has none at its
-- end, which is a quote.
unfoldable pub told : List ℕ → Option (List ℕ × Overflow)
told bytes = pair_last 32 before_overflow overflow bytes

abbrev pub named : List ℕ → Option (List ℕ × Overflow) → Option Line
named bytes None = option_map (λ n. Component n None) (name bytes)
named bytes (Some p) = option_map (λ n. Component n (Some p.1)) (name p.0)

-- A component by its name, and what is told of its overflow.
unfoldable pub component : List ℕ → Option Line
component bytes = named bytes (told bytes)

unfoldable pub played : List ℕ → Option Line
played bytes = option_map (λ p. Played p.0 p.1)
    (pair 32 short (after (codes "shadowed ") short) bytes)

unfoldable pub ended : List ℕ → Option Line
ended bytes = option_map (λ p. End p.0 p.1) (pair 32 state (after (codes "next ") long) bytes)

abbrev pub entry_of : List ℕ × ℕ → TapeEntry
entry_of p = record { name = p.0; seq = p.1 }

unfoldable pub taped : List ℕ → Option TapeEntry
taped bytes = option_map entry_of (pair_last 32 name short bytes)

-- A line by its first word, and what follows.
unfoldable pub line_by : List ℕ → List ℕ → Option Line
line_by word rest =
    if bytes_eq word (codes "call") then option_map Call (call rest)
    else (if bytes_eq word (codes "tape") then option_map Tape (taped rest)
    else (if bytes_eq word (codes "component") then component rest
    else (if bytes_eq word (codes "roles") then option_map Roles (roles rest)
    else (if bytes_eq word (codes "end") then ended rest
    else (if bytes_eq word (codes "played") then played rest
    else (if bytes_eq word (codes "cyber-trace") then title rest else None))))))

-- The line that these bytes are, without a newline.
unfoldable pub line_of : List ℕ → Option Line
line_of bytes = option_and_then (λ p. line_by p.0 p.1) (cut 32 bytes)
