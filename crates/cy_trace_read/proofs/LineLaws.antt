-- Lines are read as they are written.
use Rattle.std.proofs.Common.{ℕ, suc, ℤ, pos, negsuc, ◌≡◌, ◌+◌, ◌<◌, ◌≤◌, ◌^◌, ◌/◌, ◌%◌, ◌==◌, ◌||◌, not, nat_lt, Bool, true, false, cond, List, [], ◌∷◌, ◌++◌, length, map, codes, Option, Some, None, option_map, refl, ap, sym, ◌∙◌, arith, append_assoc}
use Rattle.std.proofs.lemmas.Bool.{and_from, eqb-false, ne_eqb}
use Rattle.std.proofs.lemmas.Bool.Decides.{nat_tests}
use Rattle.std.proofs.lemmas.List.{append-nil}
use Rattle.std.proofs.lemmas.Option.{none-some, option_and_then_some}
use Rattle.std.proofs.lemmas.Slice.Eq.{bytes_eq-Decides}
use Rattle.std.specs.List.{flat_map}
use Rattle.std.specs.Str.{IsUtf8, bytes_eq}
use Rattle.std.specs.Fmt.{decimal}
use Rattle.cy_fuse.specs.declared.overflow.Overflow.{Overflow}
use Rattle.cy_fuse.specs.declared.overflow.Overflow.TheVariants.{Newest, Oldest}
use Rattle.cy_msg.specs.Quoted.{quoted, escaped, octal}
use Rattle.cy_trace.specs.Cuts.{lacks, cut}
use Rattle.cy_trace_read.specs.LineReading.{short, long, pair, after, call, call_of, name, roles, state, version, title, told, named, component, played, ended, taped, entry_of, line_by, line_of}
use Rattle.cy_trace.specs.LineParts.{value_text, overflow_word}
use Rattle.cy_trace.specs.TraceForm.{IsShort, IsLong, IsValue, IsOutput, IsSeqs, Each, IsLine, output_text, numbers_text, digits_text, state_text, line_text}
use Rattle.cy_trace.specs.declared.trace.TraceOutput.{TraceOutput}
use Rattle.cy_trace.specs.declared.trace.TraceCall.{TraceCall}
use Rattle.cy_trace.specs.declared.trace.TapeEntry.{TapeEntry}
use Rattle.cy_trace.specs.declared.line.Line.{Line}
use Rattle.cy_trace.specs.declared.line.Line.TheVariants.{Title, Played, Component, Roles, Call, End, Tape}
use Rattle.cy_trace.proofs.CutLaws.{cut_finds, cut_parts, mapped_some, lacks-append}
use Rattle.cy_trace_read.proofs.NumeralLaws.{lacks_decimal}
use Rattle.cy_trace_read.proofs.NameLaws.{name_reader}
use Rattle.cy_trace_read.proofs.PartLaws.{short_reader, long_reader, place_reader, output_reader, seqs_reader, roles_reader, state_reader, words_text, version_reader, version_short, told_reader}
use Rattle.cy_trace_read.proofs.Readers.{IsReader, pair_reader, pair_last_reader, after_reader, made_reader}

-- what marks below a dash are lacking in
module _ (mark : ℕ) (low : mark < 45) where
  apart : (b : ℕ) → 45 ≤ b → not (b == mark) ≡ true
  apart b high = ap not (ne_eqb b mark (λ e. omega arith))

  lacks_number : (n : ℕ) → n < 2 ^ 64 → lacks mark (decimal n) ≡ true
  lacks_number n small = lacks_decimal mark n (λ h. omega (arith, h.0)) small

  lacks_value : (o : Option ℤ) → IsValue o → lacks mark (value_text o) ≡ true
  lacks_value None fits = refl
  lacks_value (Some (pos n)) fits = and_from (not (61 == mark)) (lacks mark (decimal n)) (apart 61 (omega arith)) (lacks_number n (omega arith))
  lacks_value (Some (negsuc n)) fits =
      and_from (not (61 == mark)) (lacks mark (45 ∷ decimal (suc n))) (apart 61 (omega arith))
      (and_from (not (45 == mark)) (lacks mark (decimal (suc n))) (apart 45 (omega arith)) (lacks_number (suc n) (omega arith)))

  lacks_output : (o : Option TraceOutput) → IsOutput o → lacks mark (output_text o) ≡ true
  lacks_output None fits = and_from (not (45 == mark)) true (apart 45 (omega arith)) refl
  lacks_output (Some out) fits =
      lacks-append mark (decimal out.seq ++ codes "@" ++ decimal out.time) (value_text out.value)
      (lacks-append mark (decimal out.seq ++ codes "@") (decimal out.time)
      (lacks-append mark (decimal out.seq) (codes "@") (lacks_number out.seq (omega (arith, fits.0))) (and_from (not (64 == mark)) true (apart 64 (omega arith)) refl))
      (lacks_number out.time (omega (arith, fits.1.0)))) (lacks_value out.value fits.1.1)

-- the readings of what follows a line's first word
call_text : TraceCall → List ℕ
call_text x = (decimal x.position ++ 47 ∷ decimal x.tail) ++ 32 ∷ (words_text x.seqs ++ 32 ∷ output_text x.out)

lacks_place : (p : ℕ × ℕ) → IsLong p.0 × IsLong p.1 → lacks 32 (decimal p.0 ++ 47 ∷ decimal p.1) ≡ true
lacks_place p fits = lacks-append 32 (decimal p.0) (47 ∷ decimal p.1) (lacks_number 32 (omega arith) p.0 (omega (arith, fits.0))) (lacks_number 32 (omega arith) p.1 (omega (arith, fits.1)))

call_reader : IsReader call_text (λ x. (IsLong x.position × IsLong x.tail) × (IsSeqs x.seqs × IsOutput x.out)) call
unfolding call call_text
call_reader =
    made_reader (pair_reader place_reader (pair_last_reader seqs_reader output_reader 32 (lacks_output 32 (omega arith))) 32 lacks_place)
    (λ x. (decimal x.position ++ 47 ∷ decimal x.tail) ++ 32 ∷ (words_text x.seqs ++ 32 ∷ output_text x.out))
    (λ x. (IsLong x.position × IsLong x.tail) × (IsSeqs x.seqs × IsOutput x.out)) call_of (λ x. ((x.position, x.tail), (x.seqs, x.out))) (λ x. refl) (λ p h. h) (λ x h. h) (λ p h. refl)

short_lacks : (n : ℕ) → IsShort n → lacks 32 (decimal n) ≡ true
short_lacks n fits = lacks_number 32 (omega arith) n (omega arith)

taped_reader : IsReader (λ (e : TapeEntry). quoted true e.name ++ 32 ∷ decimal e.seq) (λ e. IsUtf8 e.name × IsShort e.seq) taped
unfolding taped
taped_reader =
    made_reader (pair_last_reader name_reader short_reader 32 short_lacks) (λ e. quoted true e.name ++ 32 ∷ decimal e.seq) (λ e. IsUtf8 e.name × IsShort e.seq)
    entry_of (λ e. (e.name, e.seq)) (λ e. refl) (λ p h. h) (λ e h. h) (λ p h. refl)

played_reader : IsReader (λ (p : ℕ × ℕ). decimal p.0 ++ 32 ∷ (codes "shadowed " ++ decimal p.1)) (λ p. IsShort p.0 × IsShort p.1) (pair 32 short (after (codes "shadowed ") short))
played_reader = pair_reader short_reader (after_reader short_reader (codes "shadowed ")) 32 short_lacks

lacks_state : (v : Bool) → Unit {0} → lacks 32 (state_text v) ≡ true
lacks_state true h = refl
lacks_state false h = refl

ended_reader : IsReader (λ (p : Bool × ℕ). state_text p.0 ++ 32 ∷ (codes "next " ++ decimal p.1)) (λ p. Unit {0} × IsLong p.1) (pair 32 state (after (codes "next ") long))
ended_reader = pair_reader state_reader (after_reader long_reader (codes "next ")) 32 lacks_state

-- nothing is told behind a name in quotes
last_of : List ℕ → ℕ
last_of [] = 0
last_of (x ∷ []) = x
last_of (x ∷ y ∷ ys) = last_of (y ∷ ys)

last_is : (xs : List ℕ) (b : ℕ) → last_of (xs ++ b ∷ []) ≡ b
unfolding last_of
last_is [] b = refl
last_is (x ∷ []) b = refl
last_is (x ∷ y ∷ ys) b = last_is (y ∷ ys) b

quote_last : (n : List ℕ) → last_of (quoted true n) ≡ 34
unfolding quoted
quote_last n = last_is (34 ∷ flat_map (escaped true) n) 34

word_last : (xs : List ℕ) (o : Overflow) → last_of (xs ++ 32 ∷ overflow_word o) ≡ 84
word_last xs Newest = ap last_of (sym (append_assoc xs (codes " NEWES") (84 ∷ []))) ∙ last_is (xs ++ codes " NEWES") 84
word_last xs Oldest = ap last_of (sym (append_assoc xs (codes " OLDES") (84 ∷ []))) ∙ last_is (xs ++ codes " OLDES") 84

told_by : (o : Option (List ℕ × Overflow)) → ((p : List ℕ × Overflow) → o ≡ Some p → ⊥) → o ≡ None
told_by None h = refl
told_by (Some p) h = absurd (h p refl)

none_told : (n : List ℕ) → told (quoted true n) ≡ None
none_told n = told_by (told (quoted true n)) (λ p found.
    let s = told_reader.sound (quoted true n) p found in
    let quote : last_of (quoted true n) ≡ 34 = quote_last n in
    let word : last_of (quoted true n) ≡ 84 = ap last_of s.1 ∙ word_last (p.0 ++ 32 ∷ codes "overflow") p.1 in
    omega arith)

-- a line's first word, and what follows
abbrev word_of : Line → List ℕ
word_of (Title v) = codes "cyber-trace"
word_of (Played p s) = codes "played"
word_of (Component n o) = codes "component"
word_of (Roles rs) = codes "roles"
word_of (Call x) = codes "call"
word_of (End f n) = codes "end"
word_of (Tape e) = codes "tape"

abbrev rest_of : Line → List ℕ
rest_of (Title v) = decimal v
rest_of (Played p s) = decimal p ++ 32 ∷ (codes "shadowed " ++ decimal s)
rest_of (Component n None) = quoted true n
rest_of (Component n (Some o)) = (quoted true n ++ 32 ∷ codes "overflow") ++ 32 ∷ overflow_word o
rest_of (Roles rs) = digits_text rs
rest_of (Call x) = (decimal x.position ++ 47 ∷ decimal x.tail) ++ 32 ∷ (words_text x.seqs ++ 32 ∷ output_text x.out)
rest_of (End f n) = state_text f ++ 32 ∷ (codes "next " ++ decimal n)
rest_of (Tape e) = quoted true e.name ++ 32 ∷ decimal e.seq

numbers_words : (n : ℕ) (ns : List ℕ) → numbers_text (n ∷ ns) ≡ 32 ∷ words_text (n ∷ ns)
unfolding words_text
numbers_words n [] = ap (λ (xs : List ℕ). 32 ∷ xs) (append-nil (decimal n))
numbers_words n (m ∷ ns) = ap (λ (xs : List ℕ). 32 ∷ (decimal n ++ xs)) (numbers_words m ns)

joined_call : (p t ns o : List ℕ) → codes "call" ++ 32 ∷ ((p ++ 47 ∷ t) ++ 32 ∷ (ns ++ 32 ∷ o)) ≡ codes "call " ++ p ++ codes "/" ++ t ++ 32 ∷ ns ++ codes " " ++ o
joined_call p t ns o = simp append_assoc

call_regroup : (p t : ℕ) (ns : List ℕ) (o : List ℕ) → 0 < length ns
    → codes "call" ++ 32 ∷ ((decimal p ++ 47 ∷ decimal t) ++ 32 ∷ (words_text ns ++ 32 ∷ o)) ≡ codes "call " ++ decimal p ++ codes "/" ++ decimal t ++ numbers_text ns ++ codes " " ++ o
call_regroup p t [] o some = absurd (omega arith)
call_regroup p t (n ∷ ns) o some =
    joined_call (decimal p) (decimal t) (words_text (n ∷ ns)) o
    ∙ ap (λ (ws : List ℕ). codes "call " ++ decimal p ++ codes "/" ++ decimal t ++ ws ++ codes " " ++ o) (sym (numbers_words n ns))

regroup : (l : Line) → IsLine l → word_of l ++ 32 ∷ rest_of l ≡ line_text l
unfolding line_text
regroup (Title v) fits = refl
regroup (Played p s) fits = simp append_assoc
regroup (Component n None) fits = ap (λ (xs : List ℕ). codes "component " ++ xs) (sym (append-nil (quoted true n)))
regroup (Component n (Some o)) fits = simp append_assoc
regroup (Roles rs) fits = refl
regroup (Call x) fits = call_regroup x.position x.tail x.seqs (output_text x.out) fits.1.0.1
regroup (End f n) fits = simp append_assoc
regroup (Tape e) fits = simp append_assoc

lacks_word : (l : Line) → lacks 32 (word_of l) ≡ true
lacks_word (Title v) = refl
lacks_word (Played p s) = refl
lacks_word (Component n o) = refl
lacks_word (Roles rs) = refl
lacks_word (Call x) = refl
lacks_word (End f n) = refl
lacks_word (Tape e) = refl

rest_read : (l : Line) → IsLine l → line_by (word_of l) (rest_of l) ≡ Some l
unfolding line_by title component played ended call_text
rest_read (Title v) fits = ap (option_map Title) (version_reader.complete v fits)
rest_read (Played p s) fits = ap (option_map (λ (v : ℕ × ℕ). Played v.0 v.1)) (played_reader.complete (p, s) fits)
rest_read (Component n None) fits = ap (named (quoted true n)) (none_told n) ∙ ap (option_map (λ m. Component m None)) (name_reader.complete n fits)
rest_read (Component n (Some o)) fits =
    ap (named ((quoted true n ++ 32 ∷ codes "overflow") ++ 32 ∷ overflow_word o)) (told_reader.complete (quoted true n, o) (tt, tt))
    ∙ ap (option_map (λ m. Component m (Some o))) (name_reader.complete n fits)
rest_read (Roles rs) fits = ap (option_map Roles) (roles_reader.complete rs fits)
rest_read (Call x) fits = ap (option_map Call) (call_reader.complete x fits)
rest_read (End f n) fits = ap (option_map (λ (v : Bool × ℕ). End v.0 v.1)) (ended_reader.complete (f, n) (tt, fits))
rest_read (Tape e) fits = ap (option_map Tape) (taped_reader.complete e fits)

pub line_back : (l : Line) → IsLine l → line_of (line_text l) ≡ Some l
unfolding line_of
line_back l fits = rw (← regroup l fits) (rw (cut_finds 32 (word_of l) (rest_of l) (lacks_word l)) (rest_read l fits))

-- whatever is read is how a line is written
abbrev Spelled : List ℕ → List ℕ → Line → Type 0
Spelled word rest l = IsLine l × (word ≡ word_of l) × (rest ≡ rest_of l)

by_word : (l : Line) (P : Type 0) (c : Bool) (found other : Option Line) → (c ≡ true → found ≡ Some l → P) → (other ≡ Some l → P) → cond c found other ≡ Some l → P
by_word l P true found other f g h = f refl h
by_word l P false found other f g h = g h

module _ (word rest : List ℕ) (l : Line) where
  called : word ≡ codes "call" → option_map Call (call rest) ≡ Some l → Spelled word rest l
  unfolding call_text
  called is h = let m = mapped_some Call (call rest) l h in let s = call_reader.sound rest m.0 m.1 in rw (← m.2) (s.0, is, s.1)

  on_tape : word ≡ codes "tape" → option_map Tape (taped rest) ≡ Some l → Spelled word rest l
  on_tape is h = let m = mapped_some Tape (taped rest) l h in let s = taped_reader.sound rest m.0 m.1 in rw (← m.2) (s.0, is, s.1)

  named_by : (found : Option (List ℕ × Overflow)) → told rest ≡ found → word ≡ codes "component" → named rest found ≡ Some l → Spelled word rest l
  named_by None finds is h =
      let m = mapped_some (λ (n : List ℕ). Component n None) (name rest) l h in
      let s = name_reader.sound rest m.0 m.1 in rw (← m.2) (s.0, is, s.1)
  named_by (Some p) finds is h =
      let m = mapped_some (λ (n : List ℕ). Component n (Some p.1)) (name p.0) l h in
      let s = name_reader.sound p.0 m.0 m.1 in
      let t = told_reader.sound rest p finds in
      rw (← m.2) (s.0, is, t.1 ∙ ap (λ (xs : List ℕ). (xs ++ 32 ∷ codes "overflow") ++ 32 ∷ overflow_word p.1) s.1)

  of_component : word ≡ codes "component" → component rest ≡ Some l → Spelled word rest l
  unfolding component
  of_component is h = named_by (told rest) refl is h

  arrived : word ≡ codes "roles" → option_map Roles (roles rest) ≡ Some l → Spelled word rest l
  arrived is h = let m = mapped_some Roles (roles rest) l h in let s = roles_reader.sound rest m.0 m.1 in rw (← m.2) (s.0, is, s.1)

  at_end : word ≡ codes "end" → ended rest ≡ Some l → Spelled word rest l
  unfolding ended
  at_end is h =
      let m = mapped_some (λ (v : Bool × ℕ). End v.0 v.1) (pair 32 state (after (codes "next ") long) rest) l h in
      let s = ended_reader.sound rest m.0 m.1 in rw (← m.2) (s.0.1, is, s.1)

  in_head : word ≡ codes "played" → played rest ≡ Some l → Spelled word rest l
  unfolding played
  in_head is h =
      let m = mapped_some (λ (v : ℕ × ℕ). Played v.0 v.1) (pair 32 short (after (codes "shadowed ") short) rest) l h in
      let s = played_reader.sound rest m.0 m.1 in rw (← m.2) (s.0, is, s.1)

  at_title : word ≡ codes "cyber-trace" → title rest ≡ Some l → Spelled word rest l
  unfolding title
  at_title is h = let m = mapped_some Title (version rest) l h in let s = version_reader.sound rest m.0 m.1 in rw (← m.2) (s.0, is, s.1)

  spelled : line_by word rest ≡ Some l → Spelled word rest l
  unfolding line_by
  spelled h =
      let is : (w : List ℕ) → bytes_eq word w ≡ true → word ≡ w = λ w. (bytes_eq-Decides word w).0 in
      let P = Spelled word rest l in
      by_word l P (bytes_eq word (codes "call")) _ _ (λ e. called (is (codes "call") e)) (
      by_word l P (bytes_eq word (codes "tape")) _ _ (λ e. on_tape (is (codes "tape") e)) (
      by_word l P (bytes_eq word (codes "component")) _ _ (λ e. of_component (is (codes "component") e)) (
      by_word l P (bytes_eq word (codes "roles")) _ _ (λ e. arrived (is (codes "roles") e)) (
      by_word l P (bytes_eq word (codes "end")) _ _ (λ e. at_end (is (codes "end") e)) (
      by_word l P (bytes_eq word (codes "played")) _ _ (λ e. in_head (is (codes "played") e)) (
      by_word l P (bytes_eq word (codes "cyber-trace")) _ _ (λ e. at_title (is (codes "cyber-trace") e)) (λ f. absurd (none-some l f)))))))) h

pub line_spelled : (bytes : List ℕ) (l : Line) → line_of bytes ≡ Some l → IsLine l × (bytes ≡ line_text l)
unfolding line_of
line_spelled bytes l h = option_and_then_some (λ (p : List ℕ × List ℕ). line_by p.0 p.1) (cut 32 bytes) l h (λ p found read.
    let s = spelled p.0 p.1 l read in
    (s.0, (cut_parts 32 bytes p found).0 ∙ ap (λ (w : List ℕ). w ++ 32 ∷ p.1) s.1 ∙ ap (λ (r : List ℕ). word_of l ++ 32 ∷ r) s.2 ∙ regroup l s.0))

-- a line has no newline
digit_apart : (d : ℕ) → 48 ≤ d → not (d == 10) ≡ true
digit_apart d high = apart 10 (omega arith) d (omega arith)

octal_lacks : (b : ℕ) → lacks 10 (octal b) ≡ true
octal_lacks b =
    and_from (not (48 + b / 64 == 10)) (lacks 10 ((48 + b / 8 % 8) ∷ (48 + b % 8) ∷ [])) (digit_apart (48 + b / 64) (omega arith))
    (and_from (not (48 + b / 8 % 8 == 10)) (lacks 10 ((48 + b % 8) ∷ [])) (digit_apart (48 + b / 8 % 8) (omega arith))
    (and_from (not (48 + b % 8 == 10)) true (digit_apart (48 + b % 8) (omega arith)) refl))

module _ (b : ℕ) where
  byte_lacks : (b ≡ 10 → ⊥) → lacks 10 (b ∷ []) ≡ true
  byte_lacks other = and_from (not (b == 10)) true (ap not (ne_eqb b 10 other)) refl

  escaped_by : (quote newline tab return control plain : Bool) → (quote ≡ true → (b ≡ 10 → ⊥)) → (newline ≡ false → (b ≡ 10 → ⊥))
      → lacks 10 (cond quote (92 ∷ b ∷ []) (cond newline (92 ∷ 110 ∷ []) (cond tab (92 ∷ 116 ∷ []) (cond return (92 ∷ 114 ∷ []) (cond control (octal b) (cond plain (b ∷ []) (b ∷ []))))))) ≡ true
  escaped_by true newline tab return control plain q n = byte_lacks (q refl)
  escaped_by false true tab return control plain q n = refl
  escaped_by false false true return control plain q n = refl
  escaped_by false false false true control plain q n = refl
  escaped_by false false false false true plain q n = octal_lacks b
  escaped_by false false false false false true q n = byte_lacks (n refl)
  escaped_by false false false false false false q n = byte_lacks (n refl)

  escaped_lacks : lacks 10 (escaped true b) ≡ true
  unfolding escaped
  escaped_lacks =
      escaped_by (b == 34 || b == 92) (b == 10) (b == 9) (b == 13) (nat_lt b 32 || b == 127) (nat_lt b 128)
      (λ e f. grind (arith, nat_tests)) (eqb-false b 10)

quoted_lacks : (text : List ℕ) → lacks 10 (flat_map (escaped true) text ++ 34 ∷ []) ≡ true
quoted_lacks [] = refl
quoted_lacks (b ∷ text) =
    rw append_assoc (lacks-append 10 (escaped true b) (flat_map (escaped true) text ++ 34 ∷ []) (escaped_lacks b) (quoted_lacks text))

name_lacks : (text : List ℕ) → lacks 10 (quoted true text) ≡ true
unfolding quoted
name_lacks text = quoted_lacks text

roles_lack : (rs : List ℕ) → lacks 10 (map (λ n. 48 + n) rs) ≡ true
roles_lack [] = refl
roles_lack (r ∷ rs) = and_from (not (48 + r == 10)) (lacks 10 (map (λ n. 48 + n) rs)) (digit_apart (48 + r) (omega arith)) (roles_lack rs)

digits_lack : (rs : List ℕ) → lacks 10 (digits_text rs) ≡ true
digits_lack [] = refl
digits_lack (r ∷ rs) = roles_lack (r ∷ rs)

short_line : (n : ℕ) → IsShort n → lacks 10 (decimal n) ≡ true
short_line n fits = lacks_number 10 (omega arith) n (omega arith)

long_line : (n : ℕ) → IsLong n → lacks 10 (decimal n) ≡ true
long_line n fits = lacks_number 10 (omega arith) n (omega arith)

words_lack : (ns : List ℕ) → Each IsShort ns → lacks 10 (words_text ns) ≡ true
unfolding words_text
words_lack [] fits = refl
words_lack (n ∷ []) fits = short_line n fits.0
words_lack (n ∷ m ∷ ns) fits = lacks-append 10 (decimal n) (32 ∷ words_text (m ∷ ns)) (short_line n fits.0) (words_lack (m ∷ ns) fits.1)

overflow_lacks : (o : Overflow) → lacks 10 (32 ∷ overflow_word o) ≡ true
overflow_lacks Newest = refl
overflow_lacks Oldest = refl

rest_lacks : (l : Line) → IsLine l → lacks 10 (rest_of l) ≡ true
rest_lacks (Title v) fits = short_line v (version_short v fits)
rest_lacks (Played p s) fits = lacks-append 10 (decimal p) (32 ∷ (codes "shadowed " ++ decimal s)) (short_line p fits.0) (short_line s fits.1)
rest_lacks (Component n None) fits = name_lacks n
rest_lacks (Component n (Some o)) fits =
    lacks-append 10 (quoted true n ++ 32 ∷ codes "overflow") (32 ∷ overflow_word o) (lacks-append 10 (quoted true n) (32 ∷ codes "overflow") (name_lacks n) refl) (overflow_lacks o)
rest_lacks (Roles rs) fits = digits_lack rs
rest_lacks (Call x) fits =
    lacks-append 10 (decimal x.position ++ 47 ∷ decimal x.tail) (32 ∷ (words_text x.seqs ++ 32 ∷ output_text x.out))
    (lacks-append 10 (decimal x.position) (47 ∷ decimal x.tail) (long_line x.position fits.0.0) (long_line x.tail fits.0.1))
    (lacks-append 10 (words_text x.seqs) (32 ∷ output_text x.out) (words_lack x.seqs fits.1.0.0) (lacks_output 10 (omega arith) x.out fits.1.1))
rest_lacks (End true n) fits = long_line n fits
rest_lacks (End false n) fits = long_line n fits
rest_lacks (Tape e) fits = lacks-append 10 (quoted true e.name) (32 ∷ decimal e.seq) (name_lacks e.name) (short_line e.seq fits.1)

word_lacks : (l : Line) → lacks 10 (word_of l) ≡ true
word_lacks (Title v) = refl
word_lacks (Played p s) = refl
word_lacks (Component n o) = refl
word_lacks (Roles rs) = refl
word_lacks (Call x) = refl
word_lacks (End f n) = refl
word_lacks (Tape e) = refl

pub line_lacks : (l : Line) → IsLine l → lacks 10 (line_text l) ≡ true
line_lacks l fits = rw (← regroup l fits) (lacks-append 10 (word_of l) (32 ∷ rest_of l) (word_lacks l) (rest_lacks l fits))
