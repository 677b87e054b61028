-- The numbers and parts of lines are read as they are written.
use Rattle.std.proofs.Common.{ℕ, zero, suc, ℤ, pos, negsuc, ◌≡◌, ◌+◌, ◌-◌, ◌<◌, ◌≤◌, ◌==◌, not, nat_lt, Bool, true, false, cond, List, [], ◌∷◌, ◌++◌, length, map, get_or, codes, Option, Some, None, option_map, refl, ap, sym, ◌∙◌, arith, append_assoc, inl, inr}
use Rattle.std.proofs.lemmas.Bool.{and_parts, or_cases, not-true, eqb-true, ne_eqb, false_from_ne_true, lt-ltb, le-ltb, ltb-false, ltb-true}
use Rattle.std.proofs.lemmas.Fmt.{decimal_nonempty}
use Rattle.std.proofs.lemmas.List.{append-nil}
use Rattle.std.proofs.lemmas.List.Splits.{join_with_byte-slice_split, length-slice_split}
use Rattle.std.proofs.lemmas.Option.{none-some, same_Some, option_and_then_some}
use Rattle.std.proofs.lemmas.Slice.Eq.{bytes_eq-Decides}
use Rattle.std.specs.Option.{option_and_then}
use Rattle.std.specs.List.{join_with_byte}
use Rattle.std.specs.Str.{bytes_eq}
use Rattle.std.specs.Fmt.{decimal, signed_decimal}
use Rattle.cy_fuse.specs.declared.overflow.Overflow.{Overflow}
use Rattle.cy_fuse.specs.declared.overflow.Overflow.TheVariants.{Newest, Oldest}
use Rattle.cy_trace.specs.Cuts.{lacks, cut, cut_last, both}
use Rattle.cy_trace_read.specs.Numerals.{number, signed, below_zero}
use Rattle.cy_trace_read.specs.LineReading.{short, long, place, timed, timed_at, output, output_of, pair, numbers, seqs, words_left, role, digits, roles, state, version, overflow, before_overflow, told}
use Rattle.cy_trace.specs.LineParts.{value_text, overflow_word}
use Rattle.cy_trace.specs.TraceForm.{IsShort, IsLong, IsLongSigned, IsValue, IsOutput, IsSeqs, Each, output_text, digits_text, state_text, is_version}
use Rattle.cy_trace.specs.declared.trace.TraceOutput.{TraceOutput}
use Rattle.cy_trace.proofs.CutLaws.{cut_none, cut_finds, cut_parts, cut_last_finds, cut_last_parts, mapped_some}
use Rattle.cy_trace_read.proofs.NumeralLaws.{number_finds, number_spells, lacks_decimal}
use Rattle.cy_trace_read.proofs.ReadingSteps.{one_word, split_found}
use Rattle.cy_trace_read.proofs.Readers.{IsReader, pair_reader, pair_last_reader, both_some}

pub short_reader : IsReader decimal IsShort short
short_reader = record {
  sound = λ bytes n h. number_spells 4294967295 n bytes h;
  complete = λ n fits. number_finds 4294967295 n (decimal n) fits (omega arith) refl;
}

pub long_reader : IsReader decimal IsLong long
long_reader = record {
  sound = λ bytes n h. number_spells 18446744073709551615 n bytes h;
  complete = λ n fits. number_finds 18446744073709551615 n (decimal n) fits (omega arith) refl;
}

pub place_reader : IsReader (λ (p : ℕ × ℕ). decimal p.0 ++ 47 ∷ decimal p.1) (λ p. IsLong p.0 × IsLong p.1) place
unfolding place
place_reader = pair_reader long_reader long_reader 47 (λ n fits. lacks_decimal 47 n (λ h. omega (arith, h.0, h.1)) (omega arith))

-- signed numbers
signed_plain : (bs : List ℕ) → lacks 45 bs ≡ true → 0 < length bs → signed bs ≡ option_map pos (number 9223372036854775807 bs)
unfolding signed
signed_plain [] h some = absurd (omega arith)
signed_plain (b ∷ bs) h some = let p = and_parts (not (b == 45)) (lacks 45 bs) h in rw (not-true (b == 45) p.0) refl

signed_finds : (z : ℤ) → IsLongSigned z → signed (signed_decimal z) ≡ Some z
unfolding signed
signed_finds (pos n) fits =
    signed_plain (decimal n) (lacks_decimal 45 n (λ h. omega (arith, h.0, h.1)) (omega arith)) (decimal_nonempty n (omega arith))
    ∙ ap (option_map pos) (number_finds 9223372036854775807 n (decimal n) fits (omega arith) refl)
signed_finds (negsuc n) fits = ap (option_and_then below_zero) (number_finds 9223372036854775808 (suc n) (decimal (suc n)) (omega arith) (omega arith) refl)

negative_spells : (n : ℕ) (bs : List ℕ) (z : ℤ) → n ≤ 9223372036854775808 → bs ≡ decimal n → below_zero n ≡ Some z → IsLongSigned z × (45 ∷ bs ≡ signed_decimal z)
negative_spells zero bs z fits is h = absurd (none-some z h)
negative_spells (suc n) bs z fits is h =
    let e = same_Some (negsuc n) z h in
    let below : n ≤ 9223372036854775807 = omega arith in
    rw (← e) (below, ap (λ (xs : List ℕ). 45 ∷ xs) is)

signed_by : (c : Bool) (b : ℕ) (bs : List ℕ) (z : ℤ) → (c ≡ true → b ≡ 45)
    → cond c (option_and_then below_zero (number 9223372036854775808 bs)) (option_map pos (number 9223372036854775807 (b ∷ bs))) ≡ Some z
    → IsLongSigned z × (b ∷ bs ≡ signed_decimal z)
signed_by true b bs z is h =
    let sign : b ≡ 45 = is refl in
    option_and_then_some below_zero (number 9223372036854775808 bs) z h (λ n found made.
    let s = number_spells 9223372036854775808 n bs found in
    rw sign (negative_spells n bs z s.0 s.1 made))
signed_by false b bs z is h =
    let m = mapped_some pos (number 9223372036854775807 (b ∷ bs)) z h in
    rw (← m.2) (number_spells 9223372036854775807 m.0 (b ∷ bs) m.1)

signed_spells : (bs : List ℕ) (z : ℤ) → signed bs ≡ Some z → IsLongSigned z × (bs ≡ signed_decimal z)
unfolding signed
signed_spells [] z h = absurd (none-some z h)
signed_spells (b ∷ bs) z h = signed_by (b == 45) b bs z (eqb-true b 45) h

-- a time, and a value where there is one
timed_finds : (n : ℕ) (o : Option ℤ) → IsLong n → IsValue o → timed (decimal n ++ value_text o) ≡ Some (n, o)
unfolding timed
timed_finds n None fits value =
    rw (append-nil (decimal n), cut_none 61 (decimal n) (lacks_decimal 61 n (λ h. omega (arith, h.0, h.1)) (omega arith)), long_reader.complete n fits) refl
timed_finds n (Some z) fits value =
    rw (cut_finds 61 (decimal n) (signed_decimal z) (lacks_decimal 61 n (λ h. omega (arith, h.0, h.1)) (omega arith)), long_reader.complete n fits, signed_finds z value) refl

timed_at_spells : (bs : List ℕ) (found : Option (List ℕ × List ℕ)) (v : ℕ × Option ℤ) → cut 61 bs ≡ found → timed_at bs found ≡ Some v
    → (IsLong v.0 × IsValue v.1) × (bs ≡ decimal v.0 ++ value_text v.1)
timed_at_spells bs None v cuts h =
    let m = mapped_some (λ (n : ℕ). let p : ℕ × Option ℤ = (n, None) in p) (long bs) v h in
    let s = long_reader.sound bs m.0 m.1 in
    rw (← m.2) ((s.0, tt), s.1 ∙ sym (append-nil (decimal m.0)))
timed_at_spells bs (Some p) v cuts h =
    let parts = both_some (long p.0) (option_map (λ (z : ℤ). Some z) (signed p.1)) v h in
    let m = mapped_some (λ (z : ℤ). Some z) (signed p.1) v.1 parts.1 in
    let s = long_reader.sound p.0 v.0 parts.0 in
    let t = signed_spells p.1 m.0 m.1 in
    let value : IsValue v.1 = rw (← m.2) t.0 in
    let text : bs ≡ decimal v.0 ++ 61 ∷ signed_decimal m.0 = (cut_parts 61 bs p cuts).0 ∙ ap (λ (xs : List ℕ). xs ++ 61 ∷ p.1) s.1 ∙ ap (λ (xs : List ℕ). decimal v.0 ++ 61 ∷ xs) t.1 in
    ((s.0, value), text ∙ ap (λ (o : Option ℤ). decimal v.0 ++ value_text o) m.2)

pub timed_reader : IsReader (λ (p : ℕ × Option ℤ). decimal p.0 ++ value_text p.1) (λ p. IsLong p.0 × IsValue p.1) timed
unfolding timed
timed_reader = record {
  sound = λ bs v h. timed_at_spells bs (cut 61 bs) v refl h;
  complete = λ v fits. timed_finds v.0 v.1 fits.0 fits.1;
}

-- what a call put out
some_output : IsReader (λ (p : ℕ × (ℕ × Option ℤ)). decimal p.0 ++ 64 ∷ (decimal p.1.0 ++ value_text p.1.1)) (λ p. IsShort p.0 × (IsLong p.1.0 × IsValue p.1.1)) (pair 64 short timed)
some_output = pair_reader short_reader timed_reader 64 (λ n fits. lacks_decimal 64 n (λ h. omega (arith, h.0, h.1)) (omega arith))

dash_fails : (bs : List ℕ) (p : ℕ × (ℕ × Option ℤ)) → pair 64 short timed bs ≡ Some p → bytes_eq bs (codes "-") ≡ false
unfolding cut
dash_fails bs p h =
    false_from_ne_true (bytes_eq bs (codes "-")) (λ e. let dash = (bytes_eq-Decides bs (codes "-")).0 e in none-some p (rw dash at h))

output_regroup : (out : TraceOutput) → decimal out.seq ++ 64 ∷ (decimal out.time ++ value_text out.value) ≡ output_text (Some out)
output_regroup out = simp append_assoc

output_finds : (o : Option TraceOutput) → IsOutput o → output (output_text o) ≡ Some o
unfolding output
output_finds None fits = refl
output_finds (Some out) fits =
    let p : ℕ × (ℕ × Option ℤ) = (out.seq, (out.time, out.value)) in
    let found = some_output.complete p fits in
    rw (← output_regroup out) (rw (dash_fails _ p found, found) refl)

output_by : (c : Bool) (bs : List ℕ) (o : Option TraceOutput) → (c ≡ true → bs ≡ codes "-")
    → cond c (Some None) (option_map (λ p. Some (output_of p)) (pair 64 short timed bs)) ≡ Some o → IsOutput o × (bs ≡ output_text o)
output_by true bs o is h = let e = same_Some None o h in rw (← e) (tt, is refl)
output_by false bs o is h =
    let m = mapped_some (λ p. Some (output_of p)) (pair 64 short timed bs) o h in
    let s = some_output.sound bs m.0 m.1 in
    rw (← m.2) (s.0, s.1 ∙ output_regroup (output_of m.0))

pub output_reader : IsReader output_text IsOutput output
unfolding output
output_reader = record {
  sound = λ bs o h. output_by (bytes_eq bs (codes "-")) bs o (bytes_eq-Decides bs (codes "-")).0 h;
  complete = output_finds;
}

-- the numbers of a call's messages
unfoldable pub words_text : List ℕ → List ℕ
words_text ns = join_with_byte 32 (map decimal ns)

lacks_blank : (n : ℕ) → IsShort n → lacks 32 (decimal n) ≡ true
lacks_blank n fits = lacks_decimal 32 n (λ h. omega (arith, h.0, h.1)) (omega arith)

words_found_in : (n : ℕ) (ns : List ℕ) → Each IsShort (n ∷ ns) → words_left (Some (words_text (n ∷ ns))) ≡ map decimal (n ∷ ns)
unfolding words_text
words_found_in n [] fits = one_word (decimal n) (lacks_blank n fits.0)
words_found_in n (m ∷ ns) fits =
    split_found (decimal n) (words_text (m ∷ ns)) (lacks_blank n fits.0) ∙ ap (λ (ws : List (List ℕ)). decimal n ∷ ws) (words_found_in m ns fits.1)

numbers_find : (ns : List ℕ) → Each IsShort ns → numbers (map decimal ns) ≡ Some ns
numbers_find [] fits = refl
numbers_find (n ∷ ns) fits = rw (short_reader.complete n fits.0, numbers_find ns fits.1) refl

numbers_spell : (words : List (List ℕ)) (ns : List ℕ) → numbers words ≡ Some ns → Each IsShort ns × (words ≡ map decimal ns)
numbers_spell [] ns h = let e = same_Some [] ns h in rw (← e) (tt, refl)
numbers_spell (word ∷ words) ns h =
    let m = mapped_some (λ (p : ℕ × List ℕ). p.0 ∷ p.1) (both (short word) (numbers words)) ns h in
    let parts = both_some (short word) (numbers words) m.0 m.1 in
    let s = short_reader.sound word m.0.0 parts.0 in
    let t = numbers_spell words m.0.1 parts.1 in
    rw (← m.2) ((s.0, t.0), ap (λ (w : List ℕ). w ∷ words) s.1 ∙ ap (λ (ws : List (List ℕ)). decimal m.0.0 ∷ ws) t.1)

seqs_some : (ns : List ℕ) → length ns ≤ 4 → cond (nat_lt 4 (length ns)) None (Some ns) ≡ Some ns
seqs_some ns few = rw (le-ltb 4 (length ns) few) refl

seqs_find : (ns : List ℕ) → IsSeqs ns → seqs (words_text ns) ≡ Some ns
unfolding seqs
seqs_find [] fits = absurd (omega (arith, fits.1))
seqs_find (n ∷ ns) fits =
    rw (words_found_in n ns fits.0, numbers_find (n ∷ ns) fits.0) (seqs_some (n ∷ ns) fits.2)

few_from : (b : Bool) (ns ms : List ℕ) → (b ≡ false → length ns ≤ 4) → cond b None (Some ns) ≡ Some ms → (ns ≡ ms) × (length ns ≤ 4)
few_from true ns ms few h = absurd (none-some ms h)
few_from false ns ms few h = (same_Some ns ms h, few refl)

words_some : (bs : List ℕ) (ns : List ℕ) → words_left (Some bs) ≡ map decimal ns → 0 < length ns
words_some bs [] h = let e : length (words_left (Some bs)) ≡ 0 = ap length h in omega (arith, length-slice_split (λ (b : ℕ). b == 32) bs, e)
words_some bs (n ∷ ns) h = omega arith

seqs_spell : (bs ns : List ℕ) → seqs bs ≡ Some ns → IsSeqs ns × (bs ≡ words_text ns)
unfolding seqs words_text
seqs_spell bs ns h =
    option_and_then_some (λ (ms : List ℕ). cond (nat_lt 4 (length ms)) None (Some ms)) (numbers (words_left (Some bs))) ns h (λ ms found made.
    let few = few_from (nat_lt 4 (length ms)) ms ns (ltb-false 4 (length ms)) made in
    let s = numbers_spell (words_left (Some bs)) ms found in
    let some = words_some bs ms s.1 in
    rw (← few.0) ((s.0, some, few.1), sym (join_with_byte-slice_split 32 bs) ∙ ap (join_with_byte 32) s.1))

pub seqs_reader : IsReader words_text IsSeqs seqs
seqs_reader = record { sound = seqs_spell; complete = seqs_find }

-- the roles of arrivals
role_finds : (r : ℕ) → r < 10 → role (48 + r) ≡ Some r
role_finds r fits =
    let back : 48 + r - 48 ≡ r = omega arith in
    rw (le-ltb (48 + r) 48 (omega arith), lt-ltb (48 + r) 58 (omega arith)) (ap (λ (n : ℕ). Some n) back)

role_by : (c d : Bool) (b r : ℕ) → (c ≡ false → 48 ≤ b) → (d ≡ true → b < 58) → cond c None (cond d (Some (b - 48)) None) ≡ Some r → (r < 10) × (b ≡ 48 + r)
role_by true d b r low high h = absurd (none-some r h)
role_by false true b r low high h = let e = same_Some (b - 48) r h in let from = low refl in let to = high refl in (omega arith, omega arith)
role_by false false b r low high h = absurd (none-some r h)

role_spells : (b r : ℕ) → role b ≡ Some r → (r < 10) × (b ≡ 48 + r)
role_spells b r h = role_by (nat_lt b 48) (nat_lt b 58) b r (ltb-false b 48) (ltb-true b 58) h

digits_some : (rs : List ℕ) → 0 < length (map (λ n. 48 + n) rs) → map (λ n. 48 + n) rs ≡ digits_text rs
digits_some [] some = absurd (omega arith)
digits_some (r ∷ rs) some = refl

some_bytes : (bs : List ℕ) → length bs == 0 ≡ false → 0 < length bs
some_bytes [] h = cc
some_bytes (b ∷ bs) h = omega arith

digits_find : (rs : List ℕ) → Each (λ r. r < 10) rs → digits (map (λ n. 48 + n) rs) ≡ Some rs
unfolding digits
digits_find [] fits = refl
digits_find (r ∷ rs) fits = rw (role_finds r fits.0, digits_find rs fits.1) refl

digits_spell : (bs rs : List ℕ) → digits bs ≡ Some rs → Each (λ r. r < 10) rs × (bs ≡ map (λ n. 48 + n) rs)
unfolding digits
digits_spell [] rs h = let e = same_Some [] rs h in rw (← e) (tt, refl)
digits_spell (b ∷ bs) rs h =
    let m = mapped_some (λ (p : ℕ × List ℕ). p.0 ∷ p.1) (both (role b) (digits bs)) rs h in
    let parts = both_some (role b) (digits bs) m.0 m.1 in
    let s = role_spells b m.0.0 parts.0 in
    let t = digits_spell bs m.0.1 parts.1 in
    rw (← m.2) ((s.0, t.0), ap (λ (d : ℕ). d ∷ bs) s.1 ∙ ap (λ (ds : List ℕ). (48 + m.0.0) ∷ ds) t.1)

no_dash : (r : ℕ) (bs : List ℕ) → bytes_eq ((48 + r) ∷ bs) (codes "-") ≡ false
no_dash r bs = false_from_ne_true (bytes_eq ((48 + r) ∷ bs) (codes "-")) (λ e.
    let dash = (bytes_eq-Decides ((48 + r) ∷ bs) (codes "-")).0 e in
    let first : 48 + r ≡ 45 = ap (λ (xs : List ℕ). get_or xs 0 0) dash in omega arith)

roles_find : (rs : List ℕ) → Each (λ r. r < 10) rs → roles (digits_text rs) ≡ Some rs
unfolding roles
roles_find [] fits = refl
roles_find (r ∷ rs) fits =
    let some : length (digits_text (r ∷ rs)) == 0 ≡ false = ne_eqb (length (digits_text (r ∷ rs))) 0 (λ e. omega arith) in
    rw (no_dash r (map (λ n. 48 + n) rs), digits_find (r ∷ rs) fits, some) refl

roles_by : (c d : Bool) (bs rs : List ℕ) → (c ≡ true → bs ≡ codes "-") → (d ≡ false → 0 < length bs) → cond c (Some []) (cond d None (digits bs)) ≡ Some rs
    → Each (λ r. r < 10) rs × (bs ≡ digits_text rs)
roles_by true d bs rs is some h = let e = same_Some [] rs h in rw (← e) (tt, is refl)
roles_by false true bs rs is some h = absurd (none-some rs h)
roles_by false false bs rs is some h = let s = digits_spell bs rs h in (s.0, s.1 ∙ digits_some rs (rw s.1 at (some refl)))

roles_spell : (bs rs : List ℕ) → roles bs ≡ Some rs → Each (λ r. r < 10) rs × (bs ≡ digits_text rs)
unfolding roles
roles_spell bs rs h = roles_by (bytes_eq bs (codes "-")) (length bs == 0) bs rs (bytes_eq-Decides bs (codes "-")).0 (some_bytes bs) h

pub roles_reader : IsReader digits_text (Each (λ r. r < 10)) roles
roles_reader = record { sound = roles_spell; complete = roles_find }

-- whether a component has ended
state_by : (c d : Bool) (bs : List ℕ) (v : Bool) → (c ≡ true → bs ≡ codes "FINISHED") → (d ≡ true → bs ≡ codes "DATA_WAIT")
    → cond c (Some true) (cond d (Some false) None) ≡ Some v → Unit {0} × (bs ≡ state_text v)
state_by true d bs v is other h = let e = same_Some true v h in rw (← e) (tt, is refl)
state_by false true bs v is other h = let e = same_Some false v h in rw (← e) (tt, other refl)
state_by false false bs v is other h = absurd (none-some v h)

state_finds : (v : Bool) → Unit {0} → state (state_text v) ≡ Some v
state_finds true fits = refl
state_finds false fits = refl

pub state_reader : IsReader state_text (λ _. Unit {0}) state
state_reader = record {
  sound = λ bs v h. state_by (bytes_eq bs (codes "FINISHED")) (bytes_eq bs (codes "DATA_WAIT")) bs v (bytes_eq-Decides bs (codes "FINISHED")).0 (bytes_eq-Decides bs (codes "DATA_WAIT")).0 h;
  complete = state_finds;
}

-- the version of the form
pub version_short : (n : ℕ) → is_version n ≡ true → IsShort n
version_short n h =
    elim (or_cases (n == 1) (n == 2) h) [
      | inl e ↦ let one : n ≡ 1 = eqb-true n 1 e in omega arith
      | inr e ↦ let two : n ≡ 2 = eqb-true n 2 e in omega arith
    ]

version_by : (b : Bool) (n v : ℕ) → b ≡ is_version n → cond b (Some n) None ≡ Some v → (n ≡ v) × (is_version v ≡ true)
version_by true n v is h = let e = same_Some n v h in (e, ap is_version (sym e) ∙ sym is)
version_by false n v is h = absurd (none-some v h)

pub version_reader : IsReader decimal (λ n. is_version n ≡ true) version
version_reader = record {
  sound = λ bs v h. option_and_then_some (λ (n : ℕ). cond (is_version n) (Some n) None) (short bs) v h (λ n found made.
      let t = version_by (is_version n) n v refl made in
      (t.1, (short_reader.sound bs n found).1 ∙ ap decimal t.0));
  complete = λ n fits. rw (short_reader.complete n (version_short n fits), fits) refl;
}

-- where a component goes on
overflow_from : (c d : Bool) (bs : List ℕ) (o : Overflow) → (c ≡ true → bs ≡ codes "NEWEST") → (d ≡ true → bs ≡ codes "OLDEST")
    → cond c (Some Newest) (cond d (Some Oldest) None) ≡ Some o → Unit {0} × (bs ≡ overflow_word o)
overflow_from true d bs o is other h = let e = same_Some Newest o h in rw (← e) (tt, is refl)
overflow_from false true bs o is other h = let e = same_Some Oldest o h in rw (← e) (tt, other refl)
overflow_from false false bs o is other h = absurd (none-some o h)

overflow_finds : (o : Overflow) → Unit {0} → overflow (overflow_word o) ≡ Some o
overflow_finds Newest fits = refl
overflow_finds Oldest fits = refl

overflow_reader : IsReader overflow_word (λ _. Unit {0}) overflow
overflow_reader = record {
  sound = λ bs o h. overflow_from (bytes_eq bs (codes "NEWEST")) (bytes_eq bs (codes "OLDEST")) bs o (bytes_eq-Decides bs (codes "NEWEST")).0 (bytes_eq-Decides bs (codes "OLDEST")).0 h;
  complete = overflow_finds;
}

before_by : (b : Bool) (bs front word found : List ℕ) → (b ≡ true → word ≡ codes "overflow") → bs ≡ front ++ 32 ∷ word → cond b (Some front) None ≡ Some found
    → Unit {0} × (bs ≡ found ++ 32 ∷ codes "overflow")
before_by true bs front word found is whole h =
    let e = same_Some front found h in
    let same : word ≡ codes "overflow" = is refl in
    (tt, whole ∙ ap (λ (w : List ℕ). front ++ 32 ∷ w) same ∙ ap (λ (f : List ℕ). f ++ 32 ∷ codes "overflow") e)
before_by false bs front word found is whole h = absurd (none-some found h)

before_reader : IsReader (λ (front : List ℕ). front ++ 32 ∷ codes "overflow") (λ _. Unit {0}) before_overflow
before_reader = record {
  sound = λ bs found h. option_and_then_some (λ (p : List ℕ × List ℕ). cond (bytes_eq p.1 (codes "overflow")) (Some p.0) None) (cut_last 32 bs) found h (λ p cuts made.
      before_by (bytes_eq p.1 (codes "overflow")) bs p.0 p.1 found (bytes_eq-Decides p.1 (codes "overflow")).0 (cut_last_parts 32 bs p cuts) made);
  complete = λ front fits. rw (cut_last_finds 32 front (codes "overflow") refl) refl;
}

overflow_lacks : (o : Overflow) → Unit {0} → lacks 32 (overflow_word o) ≡ true
overflow_lacks Newest fits = refl
overflow_lacks Oldest fits = refl

pub told_reader : IsReader (λ (p : List ℕ × Overflow). (p.0 ++ 32 ∷ codes "overflow") ++ 32 ∷ overflow_word p.1) (λ p. Unit {0} × Unit {0}) told
unfolding told
told_reader = pair_last_reader before_reader overflow_reader 32 overflow_lacks
