-- The escape that is read is the longest with which bytes begin.
use Rattle.std.proofs.Common.{ℕ, zero, suc, ◌≡◌, ◌+◌, ◌<◌, ◌≤◌, ◌^◌, ◌==◌, nat_lt, ltb-true, lt-ltb, List, [], ◌∷◌, ◌++◌, length, length-append, take, Bool, true, false, cond, Option, Some, None, ◌⊎◌, inl, inr, refl, ap, sym, ◌∙◌, subst, arith, append_assoc, append-nil}
use Rattle.std.proofs.lemmas.Grind.{common_steps}
use Rattle.std.proofs.lemmas.Bool.{false≢true, eqb-true}
use Rattle.std.proofs.lemmas.Bool.Decides.{nat_tests}
use Rattle.std.proofs.lemmas.Option.{none-some, same_Some}
use Rattle.std.proofs.Math.Seq.{take-append_seam}
use Rattle.std.specs.List.{prefix_len}
use Rattle.cy_text.specs.Letters.{is_octal, is_hex, starts}
use Rattle.cy_text.specs.Numbers.{value_from, value_of}
use Rattle.cy_text.specs.Strings.{simple_escape, one_byte, one_char, is_char, octal_escape, hex_escape, char_escape, escape_at}
use Rattle.cy_text.specs.Pieces.{AreAll, IsRun}
use Rattle.cy_text.specs.Quotations.{IsEscape, simple, octal, hexadecimal, short, long, IsInRange, IsEscapeBefore}
use Rattle.cy_text.specs.declared.escape.Escape.{Escape}
use Rattle.cy_text.specs.declared.escape.Escape.TheVariants.{Byte, Char}
use Rattle.cy_text.proofs.PieceRuns.{all_and, by_cases, either_way, first_byte, starts_front}

-- At most so many bytes of a kind.
abbrev Stops : (ℕ → Bool) → ℕ → List ℕ → List ℕ → Type 0
Stops test k digits more = (length digits ≡ k) ⊎ (starts test more ≡ false)

none_left : (test : ℕ → Bool) (k : ℕ) (more : List ℕ) → Stops test k [] more → prefix_len test (take k more) ≡ 0
none_left test zero more h = refl
none_left test (suc k) [] h = refl
none_left test (suc k) (b ∷ more) (inl e) = absurd (omega (arith, e))
none_left test (suc k) (b ∷ more) (inr e) = rw e refl

stops_less : (test : ℕ → Bool) (k d : ℕ) (digits more : List ℕ) → Stops test (suc k) (d ∷ digits) more → Stops test k digits more
stops_less test k d digits more (inl e) = inl (omega (arith, e))
stops_less test k d digits more (inr e) = inr e

take_run : (test : ℕ → Bool) (k : ℕ) (digits more : List ℕ) → AreAll test digits → length digits ≤ k → Stops test k digits more → prefix_len test (take k (digits ++ more)) ≡ length digits
take_run test k [] more all few stops = none_left test k more stops
take_run test zero (d ∷ digits) more all few stops = absurd (omega (arith, few))
take_run test (suc k) (d ∷ digits) more all few stops =
    let n : prefix_len test (take k (digits ++ more)) ≡ length digits = take_run test k digits more all.1 (omega (arith, few)) (stops_less test k d digits more stops) in
    rw (all.0, n) (omega arith)

-- The bytes of a kind in front, up to so many.
record FewOf (test : ℕ → Bool) (k : ℕ) (bytes : List ℕ) : Type 0 where
  pub front : List ℕ
  pub rest : List ℕ
  pub same : bytes ≡ front ++ rest
  pub all : AreAll test front
  pub few : length front ≤ k
  pub stops : Stops test k front rest

few_none : (test : ℕ → Bool) (k : ℕ) (bytes : List ℕ) → Stops test k [] bytes → FewOf test k bytes
few_none test k bytes h = record { front = []; rest = bytes; same = refl; all = tt; few = omega arith; stops = h }

stops_more : (test : ℕ → Bool) (k d : ℕ) (digits more : List ℕ) → Stops test k digits more → Stops test (suc k) (d ∷ digits) more
stops_more test k d digits more (inl e) = inl (omega (arith, e))
stops_more test k d digits more (inr e) = inr e

few_more : (test : ℕ → Bool) (k b : ℕ) (bytes : List ℕ) → test b ≡ true → FewOf test k bytes → FewOf test (suc k) (b ∷ bytes)
few_more test k b bytes e f =
    record { front = b ∷ f.front; rest = f.rest; same = ap (λ (xs : List ℕ). b ∷ xs) f.same; all = (e, f.all); few = omega (arith, f.few); stops = stops_more test k b f.front f.rest f.stops }

few_of : (test : ℕ → Bool) (k : ℕ) (bytes : List ℕ) → FewOf test k bytes
few_of test zero bytes = few_none test zero bytes (inl refl)
few_of test (suc k) [] = few_none test (suc k) [] (inr refl)
few_of test (suc k) (b ∷ bytes) = either_way (test b) (λ yes. few_more test k b bytes yes (few_of test k bytes)) (λ no. few_none test (suc k) (b ∷ bytes) (inr no))

-- An escape that is in its range.
abbrev pub kept : Escape → ℕ → Option (Escape × ℕ)
kept (Byte n) len = cond (nat_lt n 256) (Some (Byte n, len)) None
kept (Char n) len = cond (is_char n) (Some (Char n, len)) None

small_byte : (n : ℕ) → nat_lt n 256 ≡ true → nat_lt n (2 ^ 64) ≡ true
small_byte n h = let less : n < 256 = ltb-true n 256 h in lt-ltb n (2 ^ 64) (omega (arith, less))

char_below : (n : ℕ) → is_char n ≡ true → n < 0x110000
char_below n h = grind (arith, nat_tests, common_steps)

small_char : (n : ℕ) → is_char n ≡ true → nat_lt n (2 ^ 64) ≡ true
small_char n h = let less : n < 0x110000 = char_below n h in lt-ltb n (2 ^ 64) (omega (arith, less))

one_byte_kept : (c : Bool) (n len : ℕ) → nat_lt n (2 ^ 64) ≡ c → one_byte (cond c (Some n) None) len ≡ kept (Byte n) len
one_byte_kept true n len e = refl
one_byte_kept false n len e = either_way (nat_lt n 256)
    (λ yes. absurd (false≢true (sym e ∙ small_byte n yes)))
    (λ no. rw no refl)

byte_value : (base len : ℕ) (digits : List ℕ) → one_byte (value_of base digits) len ≡ kept (Byte (value_from base 0 digits)) len
unfolding value_of
byte_value base len digits = one_byte_kept (nat_lt (value_from base 0 digits) (2 ^ 64)) (value_from base 0 digits) len refl

one_char_kept : (c : Bool) (n len : ℕ) → nat_lt n (2 ^ 64) ≡ c → one_char (cond c (Some n) None) len ≡ kept (Char n) len
one_char_kept true n len e = refl
one_char_kept false n len e = either_way (is_char n)
    (λ yes. absurd (false≢true (sym e ∙ small_char n yes)))
    (λ no. rw no refl)

char_value : (base len : ℕ) (digits : List ℕ) → one_char (value_of base digits) len ≡ kept (Char (value_from base 0 digits)) len
unfolding value_of
char_value base len digits = one_char_kept (nat_lt (value_from base 0 digits) (2 ^ 64)) (value_from base 0 digits) len refl

-- The marks of the table.
record Other (b : ℕ) : Type 0 where
  pub no_octal : is_octal b ≡ false
  pub no_x : (b == 120) ≡ false
  pub no_u : (b == 117) ≡ false
  pub no_capital : (b == 85) ≡ false

by_mark : (b c : ℕ) (o rest : Option ℕ) (n : ℕ) → Other c → (rest ≡ Some n → Other b) → cond (b == c) o rest ≡ Some n → Other b
by_mark b c o rest n p f h = chosen_mark (b == c) refl h
  where
    chosen_mark : (t : Bool) → (b == c) ≡ t → cond t o rest ≡ Some n → Other b
    chosen_mark true e k = subst Other (sym (eqb-true b c e)) p
    chosen_mark false e k = f k

simple_is_other : (b n : ℕ) → simple_escape b ≡ Some n → Other b
unfolding simple_escape
simple_is_other b n h =
    by_mark b 97 _ _ n (record { no_octal = refl; no_x = refl; no_u = refl; no_capital = refl }) (
    by_mark b 98 _ _ n (record { no_octal = refl; no_x = refl; no_u = refl; no_capital = refl }) (
    by_mark b 102 _ _ n (record { no_octal = refl; no_x = refl; no_u = refl; no_capital = refl }) (
    by_mark b 110 _ _ n (record { no_octal = refl; no_x = refl; no_u = refl; no_capital = refl }) (
    by_mark b 114 _ _ n (record { no_octal = refl; no_x = refl; no_u = refl; no_capital = refl }) (
    by_mark b 116 _ _ n (record { no_octal = refl; no_x = refl; no_u = refl; no_capital = refl }) (
    by_mark b 118 _ _ n (record { no_octal = refl; no_x = refl; no_u = refl; no_capital = refl }) (
    by_mark b 63 _ _ n (record { no_octal = refl; no_x = refl; no_u = refl; no_capital = refl }) (
    by_mark b 92 _ _ n (record { no_octal = refl; no_x = refl; no_u = refl; no_capital = refl }) (
    by_mark b 39 _ _ n (record { no_octal = refl; no_x = refl; no_u = refl; no_capital = refl }) (
    by_mark b 34 _ _ n (record { no_octal = refl; no_x = refl; no_u = refl; no_capital = refl }) (
    λ none. absurd (none-some n none))))))))))))
    h

other_escape : (b : ℕ) (more : List ℕ) → Other b → escape_at (b ∷ more) ≡ one_byte (simple_escape b) 1
unfolding escape_at
other_escape b more p = rw (p.no_octal, p.no_x, p.no_u, p.no_capital) refl

simple_before : (b n : ℕ) (more : List ℕ) → simple_escape b ≡ Some n → escape_at (b ∷ more) ≡ kept (Byte n) 1
simple_before b n more h = other_escape b more (simple_is_other b n h) ∙ ap (λ (o : Option ℕ). one_byte o 1) h

-- Digits.
octal_before : (digits more : List ℕ) → 0 < length digits → AreAll is_octal digits → length digits ≤ 3 → Stops is_octal 3 digits more
    → escape_at (digits ++ more) ≡ kept (Byte (value_from 8 0 digits)) (length digits)
unfolding escape_at octal_escape
octal_before [] more some all few stops = absurd (omega (arith, some))
octal_before (d ∷ digits) more some all few stops =
    let n : prefix_len is_octal (take 3 (d ∷ digits ++ more)) ≡ length (d ∷ digits) = take_run is_octal 3 (d ∷ digits) more all few stops in
    let front : take (length (d ∷ digits)) (d ∷ digits ++ more) ≡ d ∷ digits = take-append_seam (d ∷ digits) more in
    rw (n, front, all.0) (byte_value 8 (length (d ∷ digits)) (d ∷ digits))

hex_before : (digits more : List ℕ) → AreAll is_hex digits → length digits ≤ 2 → Stops is_hex 2 digits more
    → escape_at (120 ∷ digits ++ more) ≡ cond (length digits == 0) None (kept (Byte (value_from 16 0 digits)) (1 + length digits))
unfolding escape_at hex_escape
hex_before digits more all few stops =
    let n : prefix_len is_hex (take 2 (digits ++ more)) ≡ length digits = take_run is_hex 2 digits more all few stops in
    rw (n, take-append_seam digits more, byte_value 16 (1 + length digits) digits) refl

full_before : (k : ℕ) (digits more : List ℕ) → AreAll is_hex digits → length digits ≡ k → char_escape k (digits ++ more) ≡ kept (Char (value_from 16 0 digits)) (1 + k)
unfolding char_escape
full_before k digits more all full =
    let n : prefix_len is_hex (take k (digits ++ more)) ≡ length digits = take_run is_hex k digits more all (omega (arith, full)) (inl full) in
    let front : take k (digits ++ more) ≡ digits = ap (λ (m : ℕ). take m (digits ++ more)) (sym full) ∙ take-append_seam digits more in
    let test : (length digits == k) ≡ true = grind (arith, nat_tests, full) in
    rw (n, test, front, char_value 16 (1 + k) digits) refl

short_by : (digits more : List ℕ) → escape_at (117 ∷ digits ++ more) ≡ char_escape 4 (digits ++ more)
unfolding escape_at
short_by digits more = refl

long_by : (digits more : List ℕ) → escape_at (85 ∷ digits ++ more) ≡ char_escape 8 (digits ++ more)
unfolding escape_at
long_by digits more = refl

-- An escape that no longer one takes up is read.
abbrev Longest : List ℕ → List ℕ → Type 0
Longest rest piece = (more others : List ℕ) (other : Escape) → rest ≡ more ++ others → IsEscape (piece ++ more) other → more ≡ []

not_nothing : (b : ℕ) (bytes : List ℕ) → b ∷ bytes ≡ [] → ⊥
not_nothing b bytes e = cc

fewer_than : (n k : ℕ) → n ≤ k → (n == k) ≡ false → n < k
fewer_than n k few other = grind (arith, nat_tests, few, other)

not_zero : (n : ℕ) → 0 < n → (n == 0) ≡ false
not_zero n h = grind (arith, nat_tests, h)

positive : (n : ℕ) → (n == 0) ≡ false → 0 < n
positive zero h = absurd (false≢true (sym h))
positive (suc n) h = omega arith

-- Digits that are fewer than may stand are followed by none.
stops_at : (test : ℕ → Bool) (k : ℕ) (prefix digits rest : List ℕ) → length digits ≤ k → AreAll test digits
    → ((more : List ℕ) → AreAll test more → 0 < length more → length more ≤ k → (found : Escape) × IsEscape (prefix ++ more) found)
    → Longest rest (prefix ++ digits) → Stops test k digits rest
stops_at test k prefix digits rest few all form longest = either_way (length digits == k) (λ yes. inl (eqb-true (length digits) k yes))
    (λ fewer. either_way (starts test rest)
    (λ yes.
    let p = first_byte test rest yes in
    let n : length (digits ++ p.byte ∷ []) ≡ length digits + 1 = length-append digits (p.byte ∷ []) in
    let less : length digits < k = fewer_than (length digits) k few fewer in
    let longer = form (digits ++ p.byte ∷ []) (all_and test digits p.byte all p.yes) (omega (arith, n)) (omega (arith, n, less)) in
    absurd (not_nothing p.byte [] (longest (p.byte ∷ []) p.more longer.0 p.same (subst (λ (xs : List ℕ). IsEscape xs longer.0) (sym (append_assoc prefix digits (p.byte ∷ []))) longer.1))))
    (λ no. inr no))

unless : (c : Bool) (o : Option (Escape × ℕ)) → c ≡ false → cond c None o ≡ o
unless c o e = rw e refl

escape_form : {piece : List ℕ} {found : Escape} (rest : List ℕ) → IsEscape piece found → Longest rest piece → escape_at (piece ++ rest) ≡ kept found (length piece)
escape_form rest (simple {b = b} {n = n} e) longest = simple_before b n rest e
escape_form rest (octal {digits = ds} run few) longest =
    octal_before ds rest run.some run.all few
    (stops_at is_octal 3 [] ds rest few run.all (λ more all some small. (Byte (value_from 8 0 more), octal (record { some = some; all = all }) small)) longest)
escape_form rest (hexadecimal {digits = ds} run few) longest =
    let test : (length ds == 0) ≡ false = not_zero (length ds) run.some in
    let len : 1 + length ds ≡ length (120 ∷ ds) = omega arith in
    let stops = stops_at is_hex 2 (120 ∷ []) ds rest few run.all (λ more all some small. (Byte (value_from 16 0 more), hexadecimal (record { some = some; all = all }) small)) longest in
    hex_before ds rest run.all few stops ∙ unless (length ds == 0) (kept (Byte (value_from 16 0 ds)) (1 + length ds)) test ∙ ap (kept (Byte (value_from 16 0 ds))) len
escape_form rest (short {digits = ds} all full) longest =
    let len : 1 + 4 ≡ length (117 ∷ ds) = omega (arith, full) in
    short_by ds rest ∙ full_before 4 ds rest all full ∙ ap (kept (Char (value_from 16 0 ds))) len
escape_form rest (long {digits = ds} all full) longest =
    let len : 1 + 8 ≡ length (85 ∷ ds) = omega (arith, full) in
    long_by ds rest ∙ full_before 8 ds rest all full ∙ ap (kept (Char (value_from 16 0 ds))) len

kept_range : (found : Escape) (len : ℕ) → IsInRange found → kept found len ≡ Some (found, len)
kept_range (Byte n) len h = rw (lt-ltb n 256 h) refl
kept_range (Char n) len h = rw h refl

pub escape_before : {piece : List ℕ} {found : Escape} (rest : List ℕ) → IsEscapeBefore rest piece found → escape_at (piece ++ rest) ≡ Some (found, length piece)
escape_before {piece = p} {found = found} rest e = escape_form rest e.form e.longest ∙ kept_range found (length p) e.range

-- The longest escape is the one that is read.
kept_if : (c : Bool) (found other : Escape) (len other_len : ℕ) → cond {A = Option (Escape × ℕ)} c (Some (found, len)) None ≡ Some (other, other_len) → len ≡ other_len
kept_if true found other len other_len e = ap (λ (p : Escape × ℕ). p.1) (same_Some (found, len) (other, other_len) e)
kept_if false found other len other_len e = absurd (none-some (other, other_len) e)

kept_len : (found other : Escape) (len other_len : ℕ) → kept found len ≡ Some (other, other_len) → len ≡ other_len
kept_len (Byte n) other len other_len e = kept_if (nat_lt n 256) (Byte n) other len other_len e
kept_len (Char n) other len other_len e = kept_if (is_char n) (Char n) other len other_len e

no_more : (piece more : List ℕ) → length (piece ++ more) ≡ length piece → more ≡ []
no_more piece [] e = refl
no_more piece (b ∷ more) e = absurd (omega (arith, e, length-append piece (b ∷ more)))

at_the_end : (piece more others : List ℕ) (other : Escape) → [] ≡ more ++ others → IsEscape (piece ++ more) other → more ≡ []
at_the_end piece [] others other e h = refl
at_the_end piece (b ∷ more) others other e h = absurd (not_nothing b (more ++ others) (sym e))

-- An escape is read in front of whatever a front of the rest is.
abbrev ReadsOn : List ℕ → List ℕ → Escape → Type 0
ReadsOn rest piece found = (more others : List ℕ) → rest ≡ more ++ others → escape_at (piece ++ more) ≡ kept found (length piece)

is_longest : (piece rest : List ℕ) (found : Escape) → ReadsOn rest piece found → IsInRange found → Longest rest piece
is_longest piece rest found reads range more others other same longer =
    let here : escape_at (piece ++ more) ≡ Some (found, length piece) = reads more others same ∙ kept_range found (length piece) range in
    let there : escape_at (piece ++ more) ≡ kept other (length (piece ++ more)) =
    ap escape_at (sym (append-nil (piece ++ more))) ∙ escape_form [] longer (at_the_end (piece ++ more)) in
    no_more piece more (kept_len other found (length (piece ++ more)) (length piece) (sym there ∙ here))

pub record EscapeOf (bytes : List ℕ) (found : Escape) (len : ℕ) : Type 0 where
  pub piece : List ℕ
  pub rest : List ℕ
  pub same : bytes ≡ piece ++ rest
  pub len_is : len ≡ length piece
  pub before : IsEscapeBefore rest piece found

abbrev pub Reads : List ℕ → Option (Escape × ℕ) → Type 0
Reads bytes None = Unit {0}
Reads bytes (Some found) = EscapeOf bytes found.0 found.1

reads_range : (piece rest : List ℕ) (found : Escape) (len : ℕ) → len ≡ length piece → IsEscape piece found → ReadsOn rest piece found → IsInRange found → Reads (piece ++ rest) (Some (found, len))
reads_range piece rest found len e form reads range =
    record { piece = piece; rest = rest; same = refl; len_is = e; before = record { form = form; longest = is_longest piece rest found reads range; range = range } }

reads_kept : (piece rest : List ℕ) (found : Escape) (len : ℕ) → len ≡ length piece → IsEscape piece found → ReadsOn rest piece found → Reads (piece ++ rest) (kept found len)
reads_kept piece rest (Byte n) len e form reads =
    by_cases (Reads (piece ++ rest)) (nat_lt n 256) (Some (Byte n, len)) None (λ yes. reads_range piece rest (Byte n) len e form reads (ltb-true n 256 yes)) (λ no. tt)
reads_kept piece rest (Char n) len e form reads =
    by_cases (Reads (piece ++ rest)) (is_char n) (Some (Char n, len)) None (λ yes. reads_range piece rest (Char n) len e form reads yes) (λ no. tt)

stops_front : (test : ℕ → Bool) (k : ℕ) (digits rest more others : List ℕ) → rest ≡ more ++ others → Stops test k digits rest → Stops test k digits more
stops_front test k digits rest more others same (inl e) = inl e
stops_front test k digits rest more others same (inr e) = inr (starts_front test rest more others same e)

front_some : (test : ℕ → Bool) (k : ℕ) (bytes front rest : List ℕ) → 0 < k → bytes ≡ front ++ rest → starts test bytes ≡ true → Stops test k front rest → 0 < length front
front_some test k bytes [] rest many same h (inl e) = absurd (omega (arith, many, e))
front_some test k bytes [] rest many same h (inr stops) = absurd (false≢true (sym stops ∙ ap (starts test) (sym same) ∙ h))
front_some test k bytes (x ∷ xs) rest many same h stops = omega arith

record_run : (test : ℕ → Bool) (digits : List ℕ) → 0 < length digits → AreAll test digits → IsRun test digits
record_run test digits some all = record { some = some; all = all }

octal_reads : (bytes : List ℕ) → starts is_octal bytes ≡ true → Reads bytes (escape_at bytes)
octal_reads bytes h =
    let f = few_of is_octal 3 bytes in
    let some = front_some is_octal 3 bytes f.front f.rest (omega arith) f.same h f.stops in
    let reads = reads_kept f.front f.rest (Byte (value_from 8 0 f.front)) (length f.front) refl (octal (record { some = some; all = f.all }) f.few)
    (λ more others same. octal_before f.front more some f.all f.few (stops_front is_octal 3 f.front f.rest more others same f.stops)) in
    subst (λ (xs : List ℕ). Reads xs (escape_at xs)) (sym f.same)
    (subst (Reads (f.front ++ f.rest)) (sym (octal_before f.front f.rest some f.all f.few f.stops)) reads)

hex_reads : (bytes : List ℕ) → Reads (120 ∷ bytes) (escape_at (120 ∷ bytes))
hex_reads bytes =
    let f = few_of is_hex 2 bytes in
    let len : 1 + length f.front ≡ length (120 ∷ f.front) = omega arith in
    let read : Reads (120 ∷ f.front ++ f.rest) (cond (length f.front == 0) None (kept (Byte (value_from 16 0 f.front)) (1 + length f.front))) =
    by_cases (Reads (120 ∷ f.front ++ f.rest)) (length f.front == 0) None (kept (Byte (value_from 16 0 f.front)) (1 + length f.front)) (λ none. tt)
    (λ some.
    let run = record_run is_hex f.front (positive (length f.front) some) f.all in
    reads_kept (120 ∷ f.front) f.rest (Byte (value_from 16 0 f.front)) (1 + length f.front) len (hexadecimal run f.few)
    (λ more others same. hex_before f.front more f.all f.few (stops_front is_hex 2 f.front f.rest more others same f.stops) ∙ unless (length f.front == 0) (kept (Byte (value_from 16 0 f.front)) (1 + length f.front)) some ∙ ap (kept (Byte (value_from 16 0 f.front))) len)) in
    subst (λ (xs : List ℕ). Reads (120 ∷ xs) (escape_at (120 ∷ xs))) (sym f.same)
    (subst (Reads (120 ∷ f.front ++ f.rest)) (sym (hex_before f.front f.rest f.all f.few f.stops)) read)

too_few : (k : ℕ) (digits more : List ℕ) → AreAll is_hex digits → length digits ≤ k → Stops is_hex k digits more → (length digits == k) ≡ false → char_escape k (digits ++ more) ≡ None
unfolding char_escape
too_few k digits more all few stops test =
    let n : prefix_len is_hex (take k (digits ++ more)) ≡ length digits = take_run is_hex k digits more all few stops in
    rw (n, test) refl

char_reads : (b k : ℕ) (bytes : List ℕ) → ((xs : List ℕ) → escape_at (b ∷ xs) ≡ char_escape k xs) → ((digits : List ℕ) → AreAll is_hex digits → length digits ≡ k → IsEscape (b ∷ digits) (Char (value_from 16 0 digits)))
    → Reads (b ∷ bytes) (escape_at (b ∷ bytes))
char_reads b k bytes by form =
    let f = few_of is_hex k bytes in
    subst (λ (xs : List ℕ). Reads (b ∷ xs) (escape_at (b ∷ xs))) (sym f.same)
    (either_way (length f.front == k)
    (λ yes.
    let full : length f.front ≡ k = eqb-true (length f.front) k yes in
    let len : 1 + k ≡ length (b ∷ f.front) = omega (arith, full) in
    let reads = reads_kept (b ∷ f.front) f.rest (Char (value_from 16 0 f.front)) (1 + k) len (form f.front f.all full)
    (λ more others same. by (f.front ++ more) ∙ full_before k f.front more f.all full ∙ ap (kept (Char (value_from 16 0 f.front))) len) in
    subst (Reads (b ∷ f.front ++ f.rest)) (sym (by (f.front ++ f.rest) ∙ full_before k f.front f.rest f.all full)) reads)
    (λ no. subst (Reads (b ∷ f.front ++ f.rest)) (sym (by (f.front ++ f.rest) ∙ too_few k f.front f.rest f.all f.few f.stops no)) tt))

simple_reads : (b : ℕ) (bytes : List ℕ) (o : Option ℕ) → simple_escape b ≡ o → Other b → Reads (b ∷ bytes) (one_byte o 1)
simple_reads b bytes None e p = tt
simple_reads b bytes (Some n) e p = reads_kept (b ∷ []) bytes (Byte n) 1 refl (simple e) (λ more others same. simple_before b n more e)

nothing_read : Reads [] (escape_at [])
unfolding escape_at
nothing_read = tt

pub escape_reads : (bytes : List ℕ) → Reads bytes (escape_at bytes)
escape_reads [] = nothing_read
escape_reads (b ∷ bytes) = either_way (is_octal b) (octal_reads (b ∷ bytes)) (λ o.
    either_way (b == 120) (λ yes. subst (λ (n : ℕ). Reads (n ∷ bytes) (escape_at (n ∷ bytes))) (sym (eqb-true b 120 yes)) (hex_reads bytes)) (λ x.
    either_way (b == 117) (λ yes. subst (λ (n : ℕ). Reads (n ∷ bytes) (escape_at (n ∷ bytes))) (sym (eqb-true b 117 yes)) (char_reads 117 4 bytes (short_by []) (λ digits all full. short all full))) (λ u.
    either_way (b == 85) (λ yes. subst (λ (n : ℕ). Reads (n ∷ bytes) (escape_at (n ∷ bytes))) (sym (eqb-true b 85 yes)) (char_reads 85 8 bytes (long_by []) (λ digits all full. long all full))) (λ w.
    let p : Other b = record { no_octal = o; no_x = x; no_u = u; no_capital = w } in
    subst (Reads (b ∷ bytes)) (sym (other_escape b bytes p)) (simple_reads b bytes (simple_escape b) refl p)))))
