-- What the lines of each channel begin with.
use Rattle.std.proofs.Common.{ℕ, zero, suc, ◌+◌, ◌<◌, ◌≡◌, ◌∙◌, ap, List, [], ◌∷◌, ◌++◌, length, map, flat_map, take, slice_get, get_or, sym, Some, codes, refl, arith}
use Rattle.std.specs.List.{All}
use Rattle.std.specs.Prelude.{OnOk, Result, Ok, Err}
use Rattle.std.proofs.lemmas.List.{length-map, map-append, get_or-map}
use Rattle.std.proofs.lemmas.List.Elements.{All-nil, All-cons}
use Rattle.std.specs.Fmt.{decimal}
use Rattle.cy_msg.specs.Names.{channel_name}
use Rattle.cy_msg.specs.declared.token.Token.{Token}
use Rattle.cy_trace_text.specs.declared.start.LineStart.{LineStart}
use Rattle.cy_trace.specs.LineParts.{tape_start}
use Rattle.cy_trace_text.specs.private.TapeLines.{started_line}
use Rattle.cy_trace_text.specs.TraceText.{tape_line}

suc_more : (names : List (List ℕ)) (i : ℕ) (name : List ℕ) → slice_get names i ≡ Some name → map tape_start (take (suc i) names) ≡ map tape_start (take i names) ++ tape_start name ∷ []
suc_more [] i name e = cc
suc_more (x ∷ rest) zero name e = cc
suc_more (x ∷ rest) (suc i) name e = ap (λ (l : List (List ℕ)). tape_start x ∷ l) (suc_more rest i name e)

-- One more name.
pub start_more : (names : List (List ℕ)) (i : ℕ) (name : List ℕ) → slice_get names i ≡ Some name → map tape_start (take (i + 1) names) ≡ map tape_start (take i names) ++ tape_start name ∷ []
start_more names i name e =
    let more : i + 1 ≡ suc i = omega arith in
    ap (λ k. map tape_start (take k names)) more ∙ suc_more names i name e

-- The start of a channel's lines is that of its name.
start_is : (names : List (List ℕ)) (channel : ℕ) → channel < length names → channel_name (map tape_start names) channel ≡ tape_start (channel_name names channel)
start_is [] channel low = absurd (omega (arith, low))
start_is (x ∷ rest) zero low = refl
start_is (x ∷ rest) (suc channel) low = start_is rest channel (omega (arith, low))

-- A line is its start and the number.
line_is : (names : List (List ℕ)) (t : Token) → t.channel < length names → started_line (map tape_start names) t ≡ tape_line names t
line_is names t low = ap (λ (s : List ℕ). s ++ decimal t.seq ++ codes "\n") (start_is names t.channel low)

-- What is read at a place is what stands there.
pub start_read : (starts : List (List ℕ)) (channel : ℕ) (start : List ℕ) → channel < length starts → start ≡ get_or starts channel start → channel_name starts channel ≡ start
start_read [] channel start low is = absurd (omega (arith, low))
start_read (x ∷ rest) zero start low is = sym is
start_read (x ∷ rest) (suc channel) start low is = start_read rest channel start (omega (arith, low)) is

-- The lines of messages on channels that have names.
pub lines_are : (names : List (List ℕ)) (tape : List Token) → ((n : ℕ) (t : Token) → slice_get tape n ≡ Some t → t.channel < length names) → flat_map (started_line (map tape_start names)) tape ≡ flat_map (tape_line names) tape
lines_are names [] known = refl
lines_are names (t ∷ rest) known =
    ap (λ (s : List ℕ). s ++ flat_map (started_line (map tape_start names)) rest) (line_is names t (known 0 t refl))
    ∙ ap (λ (s : List ℕ). tape_line names t ++ s) (lines_are names rest (λ n u e. known (suc n) u e))

-- The texts of starts.
abbrev pub texts_of : List LineStart → List (List ℕ)
texts_of starts = map (λ (s : LineStart). s.text) starts

-- The text of a start that is read is what stands at its place among the texts.
pub text_read : (starts : List LineStart) (channel : ℕ) (start : LineStart) → channel < length starts → start ≡ get_or starts channel start → channel_name (texts_of starts) channel ≡ start.text
text_read starts channel start low is =
    let size : length (texts_of starts) ≡ length starts = length-map starts (λ (s : LineStart). s.text) in
    let read : get_or (texts_of starts) channel start.text ≡ (get_or starts channel start).text = get_or-map (λ (s : LineStart). s.text) starts channel start start.text low in
    start_read (texts_of starts) channel start.text (omega (arith, low, size)) (ap (λ (s : LineStart). s.text) is ∙ sym read)

-- One more start.
pub starts_more : (starts new : List LineStart) (start : LineStart) (names : List (List ℕ)) (i : ℕ) (name : List ℕ) → slice_get names i ≡ Some name → texts_of starts ≡ map tape_start (take i names) → new ≡ starts ++ start ∷ [] → start.text ≡ tape_start name → texts_of new ≡ map tape_start (take (i + 1) names)
starts_more starts new start names i name there so is text =
    ap (λ (l : List LineStart). texts_of l) is
    ∙ map-append (λ (s : LineStart). s.text) starts (start ∷ [])
    ∙ ap (λ (l : List (List ℕ)). l ++ start.text ∷ []) so
    ∙ ap (λ (s : List ℕ). map tape_start (take i names) ++ s ∷ []) text
    ∙ sym (start_more names i name there)

-- The channels of the tape have starts.
pub known_starts : (names : List (List ℕ)) (tape : List Token) (starts : List LineStart) → texts_of starts ≡ map tape_start names → ((n : ℕ) (t : Token) → slice_get tape n ≡ Some t → t.channel < length names) → All (λ t. t.channel < length starts) tape
known_starts names [] starts is known = All-nil (λ t. t.channel < length starts)
known_starts names (t ∷ rest) starts is known =
    let few : t.channel < length names = known 0 t refl in
    let same : length (texts_of starts) ≡ length names = ap (λ (l : List (List ℕ)). length l) is ∙ length-map names tape_start in
    let size : length (texts_of starts) ≡ length starts = length-map starts (λ (s : LineStart). s.text) in
    All-cons (λ u. u.channel < length starts) t rest (omega (arith, few, same, size)) (known_starts names rest starts is (λ n u e. known (suc n) u e))

-- With the starts of all channels they are the lines of the tape.
pub lines_end : (names : List (List ℕ)) (tape : List Token) (starts : List (List ℕ)) (old new : List ℕ) → starts ≡ map tape_start names → new ≡ old ++ flat_map (started_line starts) tape → ((n : ℕ) (t : Token) → slice_get tape n ≡ Some t → t.channel < length names) → new ≡ old ++ flat_map (tape_line names) tape
lines_end names tape starts old new is so known =
    so ∙ ap (λ (s : List (List ℕ)). old ++ flat_map (started_line s) tape) is
    ∙ ap (λ (s : List ℕ). old ++ s) (lines_are names tape known)

-- What follows from what holds of an `Ok` holds of it.
pub on_ok : {T E : Type 0} (r : Result T E) (P Q : Type 0) → (P → Q) → OnOk r P → OnOk r Q
on_ok (Ok x) P Q f h = f h
on_ok (Err e) P Q f h = tt
