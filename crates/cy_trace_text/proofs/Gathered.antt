-- Lines that are gathered in an array, some at a time.
use Rattle.std.proofs.Common.{ℕ, ◌+◌, ◌<◌, ◌≤◌, ◌≡◌, ◌∙◌, ap, List, [], ◌∷◌, ◌++◌, length, flat_map, take, drop, get_or, sym, refl, arith, append_assoc, if◌then◌else◌, is_some, Bool, true, false, codes}
use Rattle.std.specs.List.{All}
use Rattle.std.specs.Fmt.{decimal}
use Rattle.cy_msg.specs.Names.{channel_name}
use Rattle.std.proofs.lemmas.List.{take_more, take-append-drop, length-take-le, flat_map_more}
use Rattle.std.proofs.lemmas.List.Concat.{flat_map-append}
use Rattle.std.proofs.lemmas.List.Elements.{All-get_or}
use Rattle.cy_trace_text.proofs.Starts.{texts_of, text_read}
use Rattle.cy_msg.specs.declared.token.Token.{Token}
use Rattle.cy_comp.specs.declared.call.Call.{Call}
use Rattle.cy_trace_text.specs.declared.start.LineStart.{LineStart}
use Rattle.cy_trace_text.specs.private.TapeLines.{started_line}
use Rattle.cy_trace_text.specs.TraceText.{call_line, call_lines}
use Rattle.cy_trace_text.specs.private.OutsAfter.{outs_after}

one_at_most : (b : Bool) → (if b then 1 else 0) ≤ 1
one_at_most true = omega arith
one_at_most false = omega arith

-- Each call has at most one output.
pub outs_few : (before : ℕ) (calls : List Call) → outs_after before calls ≤ before + length calls
outs_few before [] = omega arith
outs_few before (x ∷ rest) =
    let few = outs_few (before + (if is_some x.out then 1 else 0)) rest in
    let one : (if is_some x.out then 1 else 0) ≤ 1 = one_at_most (is_some x.out) in
    omega (arith, few, one)

-- Some calls and the others.
pub calls_split : (before : ℕ) (calls others : List Call) → call_lines before (calls ++ others) ≡ call_lines before calls ++ call_lines (outs_after before calls) others
calls_split before [] others = refl
calls_split before (x ∷ rest) others =
    let behind = before + (if is_some x.out then 1 else 0) in
    ap (λ (t : List ℕ). call_line before x ++ t) (calls_split behind rest others)
    ∙ sym (append_assoc (call_line before x) (call_lines behind rest) (call_lines (outs_after behind rest) others))

-- Some calls behind the text of the earlier ones.
pub calls_added : (before after : ℕ) (rest some others : List Call) (to new bytes whole : List ℕ) → rest ≡ some ++ others → after ≡ outs_after before some → new ≡ to ++ bytes → bytes ≡ call_lines before some → to ++ call_lines before rest ≡ whole → new ++ call_lines after others ≡ whole
calls_added before after rest some others to new bytes whole parts count is text so =
    ap (λ (l : List ℕ). l ++ call_lines after others) (is ∙ ap (λ (l : List ℕ). to ++ l) text)
    ∙ ap (λ k. to ++ call_lines before some ++ call_lines k others) count
    ∙ append_assoc to (call_lines before some) (call_lines (outs_after before some) others)
    ∙ ap (λ (l : List ℕ). to ++ l) (sym (calls_split before some others) ∙ ap (λ (l : List Call). call_lines before l) (sym parts))
    ∙ so

-- A start that is read is as short as all are.
pub short_start : (starts : List LineStart) (tape : List Token) (i : ℕ) (d : Token) (start : LineStart) → i < length tape → All (λ t. t.channel < length starts) tape → All (λ (s : LineStart). length s.text ≤ 100) starts → start ≡ get_or starts (get_or tape i d).channel start → length start.text ≤ 100
short_start starts tape i d start inside known short read =
    let t = get_or tape i d in
    let few : length (get_or starts t.channel start).text ≤ 100 = All-get_or (λ (s : LineStart). length s.text ≤ 100) starts t.channel start (All-get_or (λ u. u.channel < length starts) tape i d inside known) short in
    let size : length start.text ≡ length (get_or starts t.channel start).text = ap (λ (s : LineStart). length s.text) read in
    omega (arith, few, size)

joined : (a b d e : List ℕ) → a ++ b ++ d ++ e ≡ a ++ (b ++ d ++ e)
joined a b d e = simp append_assoc

-- One line of the tape behind the text of the earlier ones.
pub line_added : (starts : List LineStart) (tape : List Token) (i : ℕ) (d : Token) (start : LineStart) (word to mid new old : List ℕ) → i < length tape → All (λ t. t.channel < length starts) tape → start ≡ get_or starts (get_or tape i d).channel start → word ≡ start.text → to ≡ old ++ flat_map (started_line (texts_of starts)) (take i tape) → mid ≡ to ++ word → new ≡ mid ++ decimal (get_or tape i d).seq ++ codes "\n" → new ≡ old ++ flat_map (started_line (texts_of starts)) (take (i + 1) tape)
line_added starts tape i d start word to mid new old inside known read same so is last =
    let t = get_or tape i d in
    let f = started_line (texts_of starts) in
    let name = channel_name (texts_of starts) t.channel in
    let here : name ≡ start.text = text_read starts t.channel start (All-get_or (λ u. u.channel < length starts) tape i d inside known) read in
    last ∙ ap (λ (l : List ℕ). l ++ decimal t.seq ++ codes "\n") (is ∙ ap (λ (l : List ℕ). to ++ l) (same ∙ sym here) ∙ ap (λ (l : List ℕ). l ++ name) so)
    ∙ joined (old ++ flat_map f (take i tape)) name (decimal t.seq) (codes "\n")
    ∙ flat_map_more f old (take i tape) t
    ∙ ap (λ (l : List Token). old ++ flat_map f l) (sym (take_more tape i d inside))

-- Some lines of the tape behind the text of the earlier ones.
pub lines_added : (starts : List (List ℕ)) (rest some others : List Token) (to new bytes whole : List ℕ) → rest ≡ some ++ others → new ≡ to ++ bytes → bytes ≡ flat_map (started_line starts) some → to ++ flat_map (started_line starts) rest ≡ whole → new ++ flat_map (started_line starts) others ≡ whole
lines_added starts rest some others to new bytes whole parts is text so =
    let f = started_line starts in
    ap (λ (l : List ℕ). l ++ flat_map f others) (is ∙ ap (λ (l : List ℕ). to ++ l) text)
    ∙ append_assoc to (flat_map f some) (flat_map f others)
    ∙ ap (λ (l : List ℕ). to ++ l) (sym (flat_map-append f some others) ∙ ap (λ (l : List Token). flat_map f l) (sym parts))
    ∙ so

-- A call that comes next, and those behind it.
pub outs_next : (after one : ℕ) (rest others : List Call) (x : Call) (whole : ℕ) → rest ≡ x ∷ others → one ≡ (if is_some x.out then 1 else 0) → outs_after after rest ≡ whole → outs_after (after + one) others ≡ whole
outs_next after one rest others x whole is count so = ap (λ n. outs_after (after + n) others) count ∙ ap (outs_after after) (sym is) ∙ so

pub line_next : (after one : ℕ) (rest others : List Call) (x : Call) (lines new whole : List ℕ) → rest ≡ x ∷ others → one ≡ (if is_some x.out then 1 else 0) → new ≡ lines ++ call_line after x → lines ++ call_lines after rest ≡ whole
    → new ++ call_lines (after + one) others ≡ whole
line_next after one rest others x lines new whole is count text so =
    ap (λ (l : List ℕ). l ++ call_lines (after + one) others) text ∙ ap (λ n. lines ++ call_line after x ++ call_lines (after + n) others) count
    ∙ append_assoc lines (call_line after x) (call_lines (after + (if is_some x.out then 1 else 0)) others) ∙ ap (λ (l : List Call). lines ++ call_lines after l) (sym is) ∙ so

-- Calls that are parted at a place.
pub calls_parted : (n : ℕ) (rest some others : List Call) → some ≡ take n rest → others ≡ drop n rest → rest ≡ some ++ others
calls_parted n rest some others first second = sym (take-append-drop n rest) ∙ ap (λ (l : List Call). l ++ drop n rest) (sym first) ∙ ap (λ (l : List Call). some ++ l) (sym second)

pub first_count : (n : ℕ) (rest some : List Call) → some ≡ take n rest → n ≤ length rest → length some ≡ n
first_count n rest some first low = ap length first ∙ length-take-le n rest low
