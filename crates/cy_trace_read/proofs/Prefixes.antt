-- The text of a trace cut into its lines.
use Rattle.std.proofs.Common.{ℕ, ◌≡◌, ◌+◌, ◌<◌, ◌≤◌, ◌==◌, ◌⊎◌, inl, inr, not, true, List, [], ◌∷◌, ◌++◌, length, map, take, drop, Option, Some, None, Err, refl, ap, sym, subst, ◌∙◌, arith, append_assoc}
use Rattle.std.proofs.lemmas.Bool.{and_parts, not-true, true≢false, cases_lt, cases_order}
use Rattle.std.proofs.lemmas.List.{append-nil, append_cancel_right, length-append, take_at, take-append-drop, take-take, length-map, map-append, nil_from_length}
use Rattle.std.proofs.lemmas.List.Concat.{flat_map-append}
use Rattle.std.proofs.lemmas.Option.{none-some, same_Some}
use Rattle.std.specs.Option.{option_and_then}
use Rattle.std.specs.List.{flat_map}
use Rattle.cy_trace.specs.Cuts.{lacks, cut}
use Rattle.cy_trace_read.specs.LineReading.{Gives, line_of}
use Rattle.cy_trace_read.specs.LineOrder.{after_line, next, finish, error_at}
use Rattle.cy_trace.specs.declared.error.TraceError.{TraceError}
use Rattle.cy_trace.specs.declared.error.TraceError.TheVariants as trace_error
use Rattle.cy_trace_read.specs.declared.fault.Fault.{Fault}
use Rattle.cy_trace_read.specs.declared.fault.Fault.TheVariants as fault
use Rattle.cy_trace.specs.TraceForm.{IsLine, AreLines, AreOfVersion, IsTrace, IsPrefix, IsFirstBad, ReadsTrace, line_text, whole_line, lines_of_trace, text_of_trace, cut_lines, onto_line}
use Rattle.cy_trace.specs.declared.trace.Trace.{Trace}
use Rattle.cy_trace.specs.declared.line.Line.{Line}
use Rattle.cy_trace_read.specs.declared.building.Building.{Building}
use Rattle.cy_trace_read.specs.declared.building.Building.TheVariants.{Start}
use Rattle.cy_trace.proofs.CutLaws.{cut_parts, uncut}
use Rattle.cy_trace_read.proofs.LineLaws.{line_back, line_spelled, line_lacks}
use Rattle.cy_trace_read.proofs.Order.{lines_so_far, run, run-append, run_trace, built, finish_built, finished_lines, finished_suits, step_adds, step_suits, continues, IsOfVersion}
use Rattle.cy_trace.proofs.LineLists.{are_lines-append}

-- a line that ends with a newline is cut off
pub whole_cut : (xs rest : List ℕ) → lacks 10 xs ≡ true → cut_lines (xs ++ 10 ∷ rest) ≡ (xs ++ 10 ∷ []) ∷ cut_lines rest
unfolding cut_lines
whole_cut [] rest h = refl
whole_cut (x ∷ xs) rest h =
    let p = and_parts (not (x == 10)) (lacks 10 xs) h in
    rw (not-true (x == 10) p.0, whole_cut xs rest p.1) refl

-- bytes without a newline are one line
pub last_cut : (x : ℕ) (xs : List ℕ) → lacks 10 (x ∷ xs) ≡ true → cut_lines (x ∷ xs) ≡ (x ∷ xs) ∷ []
unfolding cut_lines
last_cut x [] h = let p = and_parts (not (x == 10)) true h in rw (not-true (x == 10) p.0) refl
last_cut x (y ∷ ys) h =
    let p = and_parts (not (x == 10)) (lacks 10 (y ∷ ys)) h in
    rw (not-true (x == 10) p.0) (ap (onto_line x) (last_cut y ys p.1))

pub lines_cut : (ls : List Line) (rest : List ℕ) → AreLines ls → cut_lines (flat_map whole_line ls ++ rest) ≡ map whole_line ls ++ cut_lines rest
lines_cut [] rest fits = refl
lines_cut (l ∷ ls) rest fits =
    let shape : (line_text l ++ 10 ∷ []) ++ flat_map whole_line ls ++ rest ≡ line_text l ++ 10 ∷ (flat_map whole_line ls ++ rest) = simp append_assoc in
    ap cut_lines shape ∙ whole_cut (line_text l) (flat_map whole_line ls ++ rest) (line_lacks l fits.0) ∙ ap (λ (zs : List (List ℕ)). whole_line l ∷ zs) (lines_cut ls rest fits.1)

-- a line is known by its text
same_line : (k l : Line) → IsLine k → IsLine l → whole_line k ≡ whole_line l → k ≡ l
same_line k l fk fl h =
    let text : line_text k ≡ line_text l = append_cancel_right (line_text k) (line_text l) (10 ∷ []) h in
    same_Some k l (sym (line_back k fk) ∙ ap line_of text ∙ line_back l fl)

cons_parts : {A : Type 0} (x y : A) (xs ys : List A) → x ∷ xs ≡ y ∷ ys → (x ≡ y) × (xs ≡ ys)
cons_parts x y xs ys h = (cc, cc)

-- lines that begin with the texts of some others begin with these
pub known_prefix : (ks ls : List Line) (rest : List (List ℕ)) → AreLines ks → AreLines ls → map whole_line ks ≡ map whole_line ls ++ rest
    → (more : List Line) × (ks ≡ ls ++ more) × (map whole_line more ≡ rest) × AreLines more
known_prefix ks [] rest fk fl h = (ks, refl, h, fk)
known_prefix [] (l ∷ ls) rest fk fl h = cc
known_prefix (k ∷ ks) (l ∷ ls) rest fk fl h =
    let p = cons_parts (whole_line k) (whole_line l) (map whole_line ks) (map whole_line ls ++ rest) h in
    let r = known_prefix ks ls rest fk.1 fl.1 p.1 in
    (r.0, ap (λ (x : Line). x ∷ ks) (same_line k l fk.0 fl.0 p.0) ∙ ap (λ (xs : List Line). l ∷ xs) r.1, r.2, r.3)

-- where the lines so far end, `rest` stands behind them
pub record Reached (bytes rest : List ℕ) (b : Building) (line : ℕ) : Type 0 where
  pub text : bytes ≡ flat_map whole_line (lines_so_far b) ++ rest
  pub fits : AreLines (lines_so_far b)
  pub reached : run Start (lines_so_far b) ≡ Some b
  pub suits : IsOfVersion b
  pub count : line ≡ length (lines_so_far b) + 1
  pub room : line + length rest ≤ length bytes + 1

split_and_then : {A B : Type 0} (f : A → Option B) (o : Option A) (y : B) → option_and_then f o ≡ Some y → (x : A) × (o ≡ Some x) × (f x ≡ Some y)
split_and_then f None y h = absurd (none-some y h)
split_and_then f (Some x) y h = (x, refl, h)

-- no line that lacks a newline is whole
whole_has_newline : (xs : List ℕ) → lacks 10 (xs ++ 10 ∷ []) ≡ true → ⊥
whole_has_newline [] h = true≢false (sym h)
whole_has_newline (x ∷ xs) h = whole_has_newline xs (and_parts (not (x == 10)) (lacks 10 (xs ++ 10 ∷ [])) h).1

more_cases : (more : List Line) (z : List ℕ) (zs : List (List ℕ)) → AreLines more → map whole_line more ≡ z ∷ zs
    → (l : Line) × (ls : List Line) × (more ≡ l ∷ ls) × IsLine l × (whole_line l ≡ z)
more_cases [] z zs fits h = cc
more_cases (l ∷ ls) z zs fits h = (l, ls, refl, fits.0, (cons_parts (whole_line l) z (map whole_line ls) zs h).0)

lines_of_fitting : (t : Trace) → IsTrace t → AreLines (lines_of_trace t)
unfolding IsTrace
lines_of_fitting t h = h.0

suits_of_fitting : (t : Trace) → IsTrace t → AreOfVersion t.version t.components
unfolding IsTrace
suits_of_fitting t h = h.1

trace_fits : (t : Trace) → AreLines (lines_of_trace t) → AreOfVersion t.version t.components → IsTrace t
unfolding IsTrace
trace_fits t h suits = (h, suits)

text_is : (t : Trace) → text_of_trace t ≡ flat_map whole_line (lines_of_trace t)
unfolding text_of_trace
text_is t = refl

-- the lines of a trace's text
pub text_cut : (t : Trace) (bytes : List ℕ) → IsTrace t → bytes ≡ text_of_trace t → cut_lines bytes ≡ map whole_line (lines_of_trace t)
unfolding cut_lines
text_cut t bytes fits is =
    ap cut_lines (is ∙ text_is t ∙ sym (append-nil (flat_map whole_line (lines_of_trace t))))
    ∙ lines_cut (lines_of_trace t) [] (lines_of_fitting t fits) ∙ append-nil (map whole_line (lines_of_trace t))

-- a text of the form has no first bad line
pub not_bad : (bytes : List ℕ) (before : ℕ) → IsFirstBad bytes before → (t : Trace) → IsTrace t → bytes ≡ text_of_trace t → ⊥
not_bad bytes before bad t fits is =
    elim (cases_lt before (length (cut_lines bytes))) [
      | inl less ↦ bad.bad less (t, drop (before + 1) (cut_lines bytes), fits, sym (text_cut t bytes fits is) ∙ sym (take-append-drop (before + 1) (cut_lines bytes)))
      | inr more ↦ let end : before ≡ length (cut_lines bytes) = omega (arith, bad.there) in bad.early end (t, fits, is)
    ]

one_line : (rest : List ℕ) → 0 < length rest → lacks 10 rest ≡ true → cut_lines rest ≡ rest ∷ []
one_line [] some h = absurd (omega arith)
one_line (x ∷ xs) some h = last_cut x xs h

no_lines : (ls : List Line) → map whole_line ls ≡ [] → ls ≡ []
no_lines [] h = refl
no_lines (l ∷ ls) h = cc

module _ (bytes rest : List ℕ) (b : Building) (line : ℕ) (at : Reached bytes rest b line) where
  cut_so_far : cut_lines bytes ≡ map whole_line (lines_so_far b) ++ cut_lines rest
  cut_so_far = ap cut_lines at.text ∙ lines_cut (lines_so_far b) rest at.fits

  is_prefix : IsPrefix (map whole_line (lines_so_far b))
  is_prefix =
      let c = continues b at.suits in
      let fits : AreLines (lines_of_trace c.0) = subst AreLines (sym c.2) (are_lines-append (lines_so_far b) c.1 at.fits c.3) in
      (c.0, map whole_line c.1, trace_fits c.0 fits c.4, ap (map whole_line) c.2 ∙ map-append whole_line (lines_so_far b) c.1)

  prefix_taken : IsPrefix (take (length (lines_so_far b)) (cut_lines bytes))
  prefix_taken =
      let prefix : take (length (lines_so_far b)) (map whole_line (lines_so_far b) ++ cut_lines rest) ≡ map whole_line (lines_so_far b) =
      take_at (map whole_line (lines_so_far b)) (cut_lines rest) (length (lines_so_far b)) (length-map (lines_so_far b) whole_line) in
      rw (cut_so_far, prefix) is_prefix

  -- with the next line the lines so far are a prefix of no text
  bad_next : (z : List ℕ) (zs : List (List ℕ)) → cut_lines rest ≡ z ∷ zs
      → ((t : Trace) (l : Line) (ls : List Line) → IsTrace t → IsLine l → whole_line l ≡ z → lines_of_trace t ≡ lines_so_far b ++ l ∷ ls → ⊥) → IsFirstBad bytes (length (lines_so_far b))
  bad_next z zs next_line never =
      let whole : cut_lines bytes ≡ (map whole_line (lines_so_far b) ++ z ∷ []) ++ zs =
      cut_so_far ∙ ap (λ (xs : List (List ℕ)). map whole_line (lines_so_far b) ++ xs) next_line ∙ sym (append_assoc (map whole_line (lines_so_far b)) (z ∷ []) zs) in
      let counted : length (map whole_line (lines_so_far b) ++ z ∷ []) ≡ length (lines_so_far b) + 1 =
      length-append (map whole_line (lines_so_far b)) (z ∷ []) ∙ ap (λ (n : ℕ). n + 1) (length-map (lines_so_far b) whole_line) in
      let total : length (cut_lines bytes) ≡ length (lines_so_far b) + 1 + length zs =
      ap length whole ∙ length-append (map whole_line (lines_so_far b) ++ z ∷ []) zs ∙ ap (λ (n : ℕ). n + length zs) counted in
      record {
        there = omega arith;
        prefix = prefix_taken;
        bad = λ less prefix.
            let taken : take (length (lines_so_far b) + 1) (cut_lines bytes) ≡ map whole_line (lines_so_far b) ++ z ∷ [] =
            ap (take (length (lines_so_far b) + 1)) whole ∙ take_at (map whole_line (lines_so_far b) ++ z ∷ []) zs (length (lines_so_far b) + 1) counted in
            let same : map whole_line (lines_of_trace prefix.0) ≡ map whole_line (lines_so_far b) ++ z ∷ prefix.1 =
            prefix.3 ∙ ap (λ (xs : List (List ℕ)). xs ++ prefix.1) taken ∙ append_assoc (map whole_line (lines_so_far b)) (z ∷ []) prefix.1 in
            let k = known_prefix (lines_of_trace prefix.0) (lines_so_far b) (z ∷ prefix.1) (lines_of_fitting prefix.0 prefix.2) at.fits same in
            let m = more_cases k.0 z prefix.1 k.3 k.2 in
            never prefix.0 m.0 m.1 prefix.2 m.3 m.4 (k.1 ∙ ap (λ (ls : List Line). lines_so_far b ++ ls) m.2);
        early = λ end. absurd (omega (arith, end, total));
      }

  -- the last line lacks a newline
  pub no_newline : 0 < length rest → None ≡ cut 10 rest → IsFirstBad bytes (length (lines_so_far b))
  no_newline some none =
      let lacking = uncut 10 rest (sym none) in
      bad_next rest [] (one_line rest some lacking) (λ t l ls good fits is same. whole_has_newline (line_text l) (rw is lacking))

  -- the next line is no line that may come next
  pub not_next : (text more : List ℕ) → Some (text, more) ≡ cut 10 rest → next b text ≡ None → IsFirstBad bytes (length (lines_so_far b))
  unfolding next
  not_next text more cuts none =
      let p = cut_parts 10 rest (text, more) (sym cuts) in
      bad_next (text ++ 10 ∷ []) (cut_lines more) (ap cut_lines p.0 ∙ whole_cut text more p.1) (λ t l ls good fits is same.
      let line_is : line_text l ≡ text = append_cancel_right (line_text l) text (10 ∷ []) is in
      let read : line_of text ≡ Some l = ap line_of (sym line_is) ∙ line_back l fits in
      let stuck : after_line b l ≡ None = rw read at none in
      let ran : run b (l ∷ ls) ≡ Some (built t) =
      sym (ap (option_and_then (λ (c : Building). run c (l ∷ ls))) at.reached) ∙ sym (run-append Start (lines_so_far b) (l ∷ ls)) ∙ ap (run Start) (sym same) ∙ run_trace t (suits_of_fitting t good) in
      none-some (built t) (rw stuck at ran))

  pub stepped : (text more : List ℕ) (c : Building) → Some (text, more) ≡ cut 10 rest → next b text ≡ Some c → Reached bytes more c (line + 1)
  unfolding next
  stepped text more c cuts found =
      let p = cut_parts 10 rest (text, more) (sym cuts) in
      let s = split_and_then (λ (l : Line). after_line b l) (line_of text) c found in
      let l = s.0 in
      let spelled = line_spelled text l s.1 in
      let adds = step_adds b c l s.2 in
      let split : rest ≡ whole_line l ++ more = p.0 ∙ ap (λ (xs : List ℕ). xs ++ 10 ∷ more) spelled.1 ∙ sym (append_assoc (line_text l) (10 ∷ []) more) in
      let text_now : flat_map whole_line (lines_so_far b ++ l ∷ []) ≡ flat_map whole_line (lines_so_far b) ++ whole_line l =
      flat_map-append whole_line (lines_so_far b) (l ∷ []) ∙ ap (λ (xs : List ℕ). flat_map whole_line (lines_so_far b) ++ xs) (append-nil (whole_line l)) in
      let long : length rest ≡ length text + (1 + length more) = ap length p.0 ∙ length-append text (10 ∷ more) ∙ omega arith in
      record {
        text = at.text ∙ ap (λ (xs : List ℕ). flat_map whole_line (lines_so_far b) ++ xs) split ∙ sym (append_assoc (flat_map whole_line (lines_so_far b)) (whole_line l) more)
            ∙ ap (λ (xs : List ℕ). xs ++ more) (sym text_now) ∙ ap (λ (ls : List Line). flat_map whole_line ls ++ more) (sym adds);
        fits = rw adds (are_lines-append (lines_so_far b) (l ∷ []) at.fits (spelled.0, tt));
        reached = ap (run Start) adds ∙ run-append Start (lines_so_far b) (l ∷ []) ∙ ap (option_and_then (λ (d : Building). run d (l ∷ []))) at.reached ∙ ap (option_and_then (λ (d : Building). Some d)) s.2;
        suits = step_suits b c l s.2 at.suits;
        count = rw adds (omega (arith, at.count, length-append (lines_so_far b) (l ∷ [])));
        room = omega (arith, at.room, long);
      }

  module _ (ends : length rest ≡ 0) where
    nothing : rest ≡ []
    nothing = nil_from_length rest ends

    cut_all : cut_lines bytes ≡ map whole_line (lines_so_far b)
    unfolding cut_lines
    cut_all = cut_so_far ∙ ap (λ (xs : List ℕ). map whole_line (lines_so_far b) ++ cut_lines xs) nothing ∙ append-nil (map whole_line (lines_so_far b))

    -- a trace with this text is the one that was built
    pub finishes_as : (t : Trace) → IsTrace t → bytes ≡ text_of_trace t → finish b ≡ Some t
    finishes_as t fits is =
        let same : map whole_line (lines_of_trace t) ≡ map whole_line (lines_so_far b) ++ [] = sym (text_cut t bytes fits is) ∙ cut_all ∙ sym (append-nil (map whole_line (lines_so_far b))) in
        let k = known_prefix (lines_of_trace t) (lines_so_far b) [] (lines_of_fitting t fits) at.fits same in
        let lines : lines_of_trace t ≡ lines_so_far b = k.1 ∙ ap (λ (ls : List Line). lines_so_far b ++ ls) (no_lines k.0 k.2) ∙ append-nil (lines_so_far b) in
        let built_is : built t ≡ b = same_Some (built t) b (sym (run_trace t (suits_of_fitting t fits)) ∙ ap (run Start) lines ∙ at.reached) in
        ap finish (sym built_is) ∙ finish_built t

    -- the text ends too early
    pub ends_early : finish b ≡ None → IsFirstBad bytes (length (lines_so_far b))
    ends_early none =
        let total : length (cut_lines bytes) ≡ length (lines_so_far b) = ap length cut_all ∙ length-map (lines_so_far b) whole_line in
        record {
          there = omega arith;
          prefix = prefix_taken;
          bad = λ less. absurd (omega arith);
          early = λ end found. none-some found.0 (sym none ∙ finishes_as found.0 found.1 found.2);
        }

    pub finished : (t : Trace) → finish b ≡ Some t → IsTrace t × (bytes ≡ text_of_trace t)
    finished t h =
        let lines = finished_lines b t h in
        let fits : AreLines (lines_of_trace t) = subst AreLines (sym lines) at.fits in (
          trace_fits t fits (finished_suits b t h at.suits),
          at.text ∙ ap (λ (xs : List ℕ). flat_map whole_line (lines_so_far b) ++ xs) nothing ∙ append-nil (flat_map whole_line (lines_so_far b))
              ∙ ap (flat_map whole_line) (sym lines) ∙ sym (text_is t),
        )

-- what an error may say
abbrev pub Faulty : List ℕ → TraceError → Type 0
Faulty bytes e = (e ≡ trace_error.Memory) ⊎ ((before : ℕ) × (e ≡ trace_error.Bad (before + 1)) × IsFirstBad bytes before)

pub bad_at : (bytes : List ℕ) (line before : ℕ) → line ≡ before + 1 → IsFirstBad bytes before → Faulty bytes (trace_error.Bad line)
bad_at bytes line before is bad = inr (before, ap (λ (n : ℕ). trace_error.Bad n) is, bad)

pub failed : (bytes : List ℕ) (line before : ℕ) (f : Fault) (e : TraceError) (reading : Option Building) → e ≡ error_at line f → Gives (Err f) reading → line ≡ before + 1
    → (reading ≡ None → IsFirstBad bytes before) → Faulty bytes e
failed bytes line before fault.Bad e reading is gives count bad = rw is (bad_at bytes line before count (bad gives))
failed bytes line before fault.Memory e reading is gives count bad = inl is

only_memory : (bytes : List ℕ) (e : TraceError) → Faulty bytes e → (t : Trace) → IsTrace t → bytes ≡ text_of_trace t → e ≡ trace_error.Memory
only_memory bytes e (inl is) t fits text = is
only_memory bytes e (inr bad) t fits text = absurd (not_bad bytes bad.0 bad.2 t fits text)

pub refused : (bytes : List ℕ) (e : TraceError) → Faulty bytes e → ReadsTrace bytes (Err e)
refused bytes e faulty = record { text = tt; bad = faulty; back = λ t fits is. tt; memory = only_memory bytes e faulty }

-- no two traces have one text
pub texts_tell : (t u : Trace) → IsTrace t → IsTrace u → text_of_trace t ≡ text_of_trace u → t ≡ u
texts_tell t u ft fu h =
    let same : map whole_line (lines_of_trace t) ≡ map whole_line (lines_of_trace u) ++ [] =
    sym (text_cut t (text_of_trace t) ft refl) ∙ text_cut u (text_of_trace t) fu h ∙ sym (append-nil (map whole_line (lines_of_trace u))) in
    let k = known_prefix (lines_of_trace t) (lines_of_trace u) [] (lines_of_fitting t ft) (lines_of_fitting u fu) same in
    let lines : lines_of_trace t ≡ lines_of_trace u = k.1 ∙ ap (λ (ls : List Line). lines_of_trace u ++ ls) (no_lines k.0 k.2) ∙ append-nil (lines_of_trace u) in
    let builds : built t ≡ built u = same_Some (built t) (built u) (sym (run_trace t (suits_of_fitting t ft)) ∙ ap (run Start) lines ∙ run_trace u (suits_of_fitting u fu)) in
    same_Some t u (sym (finish_built t) ∙ ap finish builds ∙ finish_built u)

-- fewer lines of a prefix are a prefix
prefix_before : (m n : ℕ) (lines : List (List ℕ)) → m ≤ n → IsPrefix (take n lines) → IsPrefix (take m lines)
prefix_before m n lines less prefix = (
  prefix.0,
  drop m (take n lines) ++ prefix.1,
  prefix.2,
  prefix.3 ∙ ap (λ (xs : List (List ℕ)). xs ++ prefix.1) (sym (take-append-drop m (take n lines)) ∙ ap (λ (xs : List (List ℕ)). xs ++ drop m (take n lines)) (take-take m n lines less))
      ∙ append_assoc (take m lines) (drop m (take n lines)) prefix.1,
)

earlier_bad : (text : List ℕ) (m n : ℕ) → IsFirstBad text m → IsFirstBad text n → m < n → ⊥
earlier_bad text m n first second less = first.bad (omega (arith, second.there)) (prefix_before (m + 1) n (cut_lines text) (omega arith) second.prefix)

pub one_bad : (text : List ℕ) (m n : ℕ) → IsFirstBad text m → IsFirstBad text n → m ≡ n
one_bad text m n first second =
    elim (cases_order m n) [
      | inl same ↦ same
      | inr other ↦ elim other [ inl less ↦ absurd (earlier_bad text m n first second less) | inr more ↦ absurd (earlier_bad text n m second first more) ]
    ]
