-- The number that is read is the longest with which bytes begin.
use Rattle.std.proofs.Common.{ℕ, ◌≡◌, ◌+◌, ◌<◌, ◌^◌, ◌==◌, ◌||◌, nat_lt, ltb-true, lt-ltb, List, [], ◌∷◌, ◌++◌, length, length-append, drop, Bool, true, false, cond, Option, Some, None, refl, ap, sym, ◌∙◌, subst, arith, append_assoc, append-nil}
use Rattle.std.proofs.lemmas.Grind.{common_steps}
use Rattle.std.proofs.lemmas.Bool.{false≢true, eqb-true}
use Rattle.std.proofs.lemmas.Bool.Decides.{nat_tests}
use Rattle.std.proofs.lemmas.Option.{none-some, same_Some}
use Rattle.std.proofs.Math.Seq.{drop-append_seam, take-append_seam}
use Rattle.std.specs.List.{prefix_len}
use Rattle.cy_text.specs.Letters.{is_between, is_digit, is_octal, is_hex, is_word, starts}
use Rattle.cy_text.specs.Numbers.{either, value_from, value_of, tail_len, ended, sized, whole_at, pointed_at, decimal_at, zero_at, number_at}
use Rattle.cy_text.specs.Tokens.{begins_number}
use Rattle.cy_text.specs.Pieces.{AreAll, IsDecimal, nought, counted, IsWhole, decimal, octal, hexadecimal, IsExponent, unsigned, signed, IsTail, bare, suffix, exponent, both, IsFloat, pointed, fractional, pointless, IsNumber, whole, float, FitsIn64, IsNumberBefore}
use Rattle.cy_text.specs.declared.number.Number.{Number}
use Rattle.cy_text.specs.declared.number.Number.TheVariants.{Whole, Literal}
use Rattle.cy_text.proofs.PieceRuns.{by_cases, either_way, run_before, run_of, run_some, first_byte, starts_less, starts_front, no_digit, tail_before, tail_of}

-- A number of so many bytes, if it has 64 bits.
abbrev pub kept : Number → ℕ → Option (Number × ℕ)
kept (Whole size) len = cond (nat_lt size (2 ^ 64)) (Some (Whole size, len)) None
kept Literal len = Some (Literal, len)

-- The same, unless a letter or a digit follows.
abbrev pub kept_before : List ℕ → Number → ℕ → Option (Number × ℕ)
kept_before rest number len = cond (starts is_word rest) None (kept number len)

drop_both : (xs ys rest : List ℕ) → drop (length xs + length ys) (xs ++ (ys ++ rest)) ≡ rest
drop_both xs ys rest =
    ap (λ (n : ℕ). drop n (xs ++ (ys ++ rest))) (sym (length-append xs ys)) ∙ ap (drop (length (xs ++ ys))) (sym (append_assoc xs ys rest)) ∙ drop-append_seam (xs ++ ys) rest

drop_past : (xs : List ℕ) (b : ℕ) (rest : List ℕ) → drop (length xs + 1) (xs ++ b ∷ rest) ≡ rest
drop_past xs b rest = drop_both xs (b ∷ []) rest

literal_before : (piece rest : List ℕ) → ended Literal (length piece) (piece ++ rest) ≡ kept_before rest Literal (length piece)
literal_before piece rest = rw (drop-append_seam piece rest) refl

-- Whole numbers.
sized_before : (c w : Bool) (size len : ℕ) (bytes : List ℕ) → starts is_word (drop len bytes) ≡ w
    → sized (cond c (Some size) None) len bytes ≡ cond w None (cond c (Some (Whole size, len)) None)
sized_before true w size len bytes e = rw e refl
sized_before false true size len bytes e = refl
sized_before false false size len bytes e = refl

whole_before : (base : ℕ) (front digits rest : List ℕ) → whole_at base (length front) (length digits) (front ++ (digits ++ rest))
    ≡ kept_before rest (Whole (value_from base 0 digits)) (length front + length digits)
unfolding whole_at value_of
whole_before base front digits rest =
    rw (drop-append_seam front (digits ++ rest), take-append_seam digits rest)
    (sized_before (nat_lt (value_from base 0 digits) (2 ^ 64)) (starts is_word rest) (value_from base 0 digits) (length front + length digits) (front ++ (digits ++ rest))
    (ap (starts is_word) (drop_both front digits rest)))

-- Literals with a point.
pointed_before : (front fraction tail rest : List ℕ) → AreAll is_digit fraction → starts is_digit (tail ++ rest) ≡ false → tail_len (tail ++ rest) ≡ length tail
    → pointed_at (length front) (front ++ 46 ∷ (fraction ++ (tail ++ rest))) ≡ kept_before rest Literal (length (front ++ 46 ∷ (fraction ++ tail)))
unfolding pointed_at
pointed_before front fraction tail rest all stops counted_tail =
    let bytes = front ++ 46 ∷ (fraction ++ (tail ++ rest)) in
    let piece = front ++ 46 ∷ (fraction ++ tail) in
    let behind : drop (length front + 1) (front ++ 46 ∷ (fraction ++ (tail ++ rest))) ≡ fraction ++ (tail ++ rest) = drop_past front 46 (fraction ++ (tail ++ rest)) in
    let digits : prefix_len is_digit (fraction ++ (tail ++ rest)) ≡ length fraction = run_before is_digit fraction (tail ++ rest) all stops in
    let front_len : length front + 1 + length fraction ≡ length front + length (46 ∷ fraction) = omega arith in
    let last : drop (length front + 1 + length fraction) (front ++ 46 ∷ (fraction ++ (tail ++ rest))) ≡ tail ++ rest =
    ap (λ (n : ℕ). drop n (front ++ 46 ∷ (fraction ++ (tail ++ rest)))) front_len ∙ drop_both front (46 ∷ fraction) (tail ++ rest) in
    let len : length front + 1 + length fraction + length tail ≡ length (front ++ 46 ∷ (fraction ++ tail)) =
    omega (arith, length-append front (46 ∷ (fraction ++ tail)), length-append fraction tail) in
    let split : front ++ 46 ∷ (fraction ++ (tail ++ rest)) ≡ (front ++ 46 ∷ (fraction ++ tail)) ++ rest =
    ap (λ (xs : List ℕ). front ++ 46 ∷ xs) (sym (append_assoc fraction tail rest)) ∙ sym (append_assoc front (46 ∷ (fraction ++ tail)) rest) in
    rw (behind, digits, last, counted_tail, len, split) (literal_before (front ++ 46 ∷ (fraction ++ tail)) rest)

-- Numbers that begin with a decimal.
decimal_point : (front rest : List ℕ) → decimal_at (length front) (front ++ 46 ∷ rest) ≡ pointed_at (length front) (front ++ 46 ∷ rest)
unfolding decimal_at
decimal_point front rest = rw (drop-append_seam front (46 ∷ rest)) refl

decimal_whole : (front rest : List ℕ) → starts (either 46 46) rest ≡ false → tail_len rest ≡ 0 → decimal_at (length front) (front ++ rest) ≡ kept_before rest (Whole (value_from 10 0 front)) (length front)
unfolding decimal_at
decimal_whole front rest point none =
    let number : whole_at 10 0 (length front) (front ++ rest) ≡ kept_before rest (Whole (value_from 10 0 front)) (0 + length front) = whole_before 10 [] front rest in
    let len : 0 + length front ≡ length front = omega arith in
    rw (drop-append_seam front rest, point, none) (number ∙ ap (kept_before rest (Whole (value_from 10 0 front))) len)

not_zero : (n m : ℕ) → n ≡ m → 0 < m → (n == 0) ≡ false
not_zero n m e h = grind (arith, nat_tests, e, h)

decimal_tail : (front tail rest : List ℕ) → starts (either 46 46) (tail ++ rest) ≡ false → tail_len (tail ++ rest) ≡ length tail → 0 < length tail
    → decimal_at (length front) (front ++ (tail ++ rest)) ≡ kept_before rest Literal (length (front ++ tail))
unfolding decimal_at
decimal_tail front tail rest point counted_tail some =
    let len : length front + length tail ≡ length (front ++ tail) = omega (arith, length-append front tail) in
    let test : (length tail == 0) ≡ false = not_zero (length tail) (length tail) refl some in
    rw (drop-append_seam front (tail ++ rest), point, counted_tail, test, len, sym (append_assoc front tail rest)) (literal_before (front ++ tail) rest)

-- A byte with which digits behind a 0 begin, or that makes it another number.
abbrev goes_on : ℕ → Bool
goes_on b = is_digit b || either 120 88 b

digit_goes_on : (b : ℕ) → is_digit b ≡ true → goes_on b ≡ true
digit_goes_on b h = grind (arith, nat_tests, common_steps)

octal_goes_on : (b : ℕ) → is_octal b ≡ true → goes_on b ≡ true
octal_goes_on b h = grind (arith, nat_tests, common_steps)

x_goes_on : (b : ℕ) → either 120 88 b ≡ true → goes_on b ≡ true
x_goes_on b h = grind (arith, nat_tests, common_steps)

goes_on_word : (b : ℕ) → goes_on b ≡ true → is_word b ≡ true
goes_on_word b h = grind (arith, nat_tests, common_steps)

high_digit : (d : ℕ) → is_between 49 57 d ≡ true → (is_digit d ≡ true) × ((d == 46) ≡ false) × ((d == 48) ≡ false)
high_digit d h = (grind (arith, nat_tests, common_steps), grind (arith, nat_tests, common_steps), grind (arith, nat_tests, common_steps))

begins_decimal : {front : List ℕ} (more : List ℕ) → IsDecimal front → starts goes_on more ≡ false → number_at (front ++ more) ≡ decimal_at (length front) (front ++ more)
unfolding number_at zero_at
begins_decimal more nought h =
    let x : starts (either 120 88) more ≡ false = starts_less (either 120 88) goes_on x_goes_on more h in
    let o : starts is_octal more ≡ false = starts_less is_octal goes_on octal_goes_on more h in
    rw (x, o) refl
begins_decimal more (counted {d = d} {digits = ds} high all) h =
    let p = high_digit d high in
    let n : prefix_len is_digit (ds ++ more) ≡ length ds = run_before is_digit ds more all (starts_less is_digit goes_on digit_goes_on more h) in
    let len : 1 + length ds ≡ length (d ∷ ds) = omega arith in
    rw (p.1, p.2, n, len) refl

-- Where a decimal ends: before no point.
abbrev pub NoPoint : List ℕ → List ℕ → Number → Type 0
NoPoint piece rest (Whole size) = IsDecimal piece → starts (either 46 46) rest ≡ false
NoPoint piece rest Literal = Unit {0}

-- What a tail begins with.
module _ (test : ℕ → Bool) (no_e : (b : ℕ) → either 101 69 b ≡ true → test b ≡ false) (no_f : (b : ℕ) → either 102 70 b ≡ true → test b ≡ false) where
  exponent_starts : {e : List ℕ} (rest : List ℕ) → IsExponent e → starts test (e ++ rest) ≡ false
  exponent_starts rest (unsigned {e = x} h run) = no_e x h
  exponent_starts rest (signed {e = x} h sign run) = no_e x h

  tail_starts : {tail : List ℕ} (rest : List ℕ) → IsTail tail → (length tail ≡ 0 → starts test rest ≡ false) → starts test (tail ++ rest) ≡ false
  tail_starts rest bare h = h refl
  tail_starts rest (suffix {f = f} is) h = no_f f is
  tail_starts rest (exponent {e = x} form) h = exponent_starts rest form
  tail_starts rest (both {e = x} form f is) h = rw (append_assoc x (f ∷ []) rest) (exponent_starts (f ∷ rest) form)

e_goes_on : (b : ℕ) → either 101 69 b ≡ true → goes_on b ≡ false
e_goes_on b h = grind (arith, nat_tests, common_steps)

f_goes_on : (b : ℕ) → either 102 70 b ≡ true → goes_on b ≡ false
f_goes_on b h = grind (arith, nat_tests, common_steps)

e_digit : (b : ℕ) → either 101 69 b ≡ true → is_digit b ≡ false
e_digit b h = grind (arith, nat_tests, common_steps)

f_digit : (b : ℕ) → either 102 70 b ≡ true → is_digit b ≡ false
f_digit b h = grind (arith, nat_tests, common_steps)

e_point : (b : ℕ) → either 101 69 b ≡ true → either 46 46 b ≡ false
e_point b h = grind (arith, nat_tests, common_steps)

f_point : (b : ℕ) → either 102 70 b ≡ true → either 46 46 b ≡ false
f_point b h = grind (arith, nat_tests, common_steps)

tail_stops : {tail : List ℕ} (rest : List ℕ) → IsTail tail → starts is_word rest ≡ false → starts is_digit (tail ++ rest) ≡ false
tail_stops rest t h = tail_starts is_digit e_digit f_digit rest t (λ e. no_digit rest h)

-- The number that bytes of the form are.
kept_ended : (rest : List ℕ) (number : Number) (len : ℕ) → starts is_word rest ≡ false → kept_before rest number len ≡ kept number len
kept_ended rest number len h = rw h refl

octal_other : (d : ℕ) → is_octal d ≡ true → either 120 88 d ≡ false
octal_other d h = grind (arith, nat_tests, common_steps)

octal_before : (digits rest : List ℕ) → 0 < length digits → AreAll is_octal digits → starts is_octal rest ≡ false
    → number_at (48 ∷ digits ++ rest) ≡ kept_before rest (Whole (value_from 8 0 digits)) (1 + length digits)
unfolding number_at zero_at
octal_before [] rest some all stops = absurd (omega (arith, some))
octal_before (d ∷ digits) rest some all stops =
    let n : prefix_len is_octal (d ∷ digits ++ rest) ≡ length (d ∷ digits) = run_before is_octal (d ∷ digits) rest all stops in
    rw (octal_other d all.0, n, all.0) (whole_before 8 (48 ∷ []) (d ∷ digits) rest)

hex_before : (x : ℕ) (digits rest : List ℕ) → either 120 88 x ≡ true → 0 < length digits → AreAll is_hex digits → starts is_hex rest ≡ false
    → number_at (48 ∷ x ∷ digits ++ rest) ≡ kept_before rest (Whole (value_from 16 0 digits)) (2 + length digits)
unfolding number_at zero_at
hex_before x digits rest h some all stops =
    let n : prefix_len is_hex (digits ++ rest) ≡ length digits = run_before is_hex digits rest all stops in
    let test : (length digits == 0) ≡ false = not_zero (length digits) (length digits) refl some in
    rw (h, n, test) (whole_before 16 (48 ∷ x ∷ []) digits rest)

octal_is_word : (b : ℕ) → is_octal b ≡ true → is_word b ≡ true
octal_is_word b h = grind (arith, nat_tests, common_steps)

hex_is_word : (b : ℕ) → is_hex b ≡ true → is_word b ≡ true
hex_is_word b h = grind (arith, nat_tests, common_steps)

pub whole_number : {piece : List ℕ} {size : ℕ} (rest : List ℕ) → IsWhole piece size → starts is_word rest ≡ false → (IsDecimal piece → starts (either 46 46) rest ≡ false)
    → number_at (piece ++ rest) ≡ kept (Whole size) (length piece)
whole_number rest (decimal {digits = ds} d) h point =
    begins_decimal rest d (starts_less goes_on is_word goes_on_word rest h) ∙ decimal_whole ds rest (point d) (tail_before rest bare h) ∙ kept_ended rest (Whole (value_from 10 0 ds)) (length ds) h
whole_number rest (octal {digits = ds} run) h point =
    let len : 1 + length ds ≡ length (48 ∷ ds) = omega arith in
    octal_before ds rest run.some run.all (starts_less is_octal is_word octal_is_word rest h) ∙ kept_ended rest (Whole (value_from 8 0 ds)) (1 + length ds) h ∙ ap (kept (Whole (value_from 8 0 ds))) len
whole_number rest (hexadecimal {x = x} {digits = ds} is run) h point =
    let len : 2 + length ds ≡ length (48 ∷ x ∷ ds) = omega arith in
    hex_before x ds rest is run.some run.all (starts_less is_hex is_word hex_is_word rest h) ∙ kept_ended rest (Whole (value_from 16 0 ds)) (2 + length ds) h ∙ ap (kept (Whole (value_from 16 0 ds))) len

point_first : (front fraction tail rest : List ℕ) → (front ++ 46 ∷ (fraction ++ tail)) ++ rest ≡ front ++ 46 ∷ (fraction ++ (tail ++ rest))
point_first front fraction tail rest = append_assoc front (46 ∷ (fraction ++ tail)) rest ∙ ap (λ (xs : List ℕ). front ++ 46 ∷ xs) (append_assoc fraction tail rest)

fraction_begins : (fraction more : List ℕ) → 0 < length fraction → AreAll is_digit fraction → number_at (46 ∷ (fraction ++ more)) ≡ pointed_at 0 (46 ∷ (fraction ++ more))
unfolding number_at
fraction_begins [] more some all = absurd (omega (arith, some))
fraction_begins (d ∷ fraction) more some all = rw (all.0) refl

pub float_number : {piece : List ℕ} (rest : List ℕ) → IsFloat piece → starts is_word rest ≡ false → number_at (piece ++ rest) ≡ Some (Literal, length piece)
float_number rest (pointed {whole = w} {tail = t} d f all tail) h =
    ap number_at (point_first w f t rest) ∙ begins_decimal (46 ∷ (f ++ (t ++ rest))) d refl ∙ decimal_point w (f ++ (t ++ rest))
    ∙ pointed_before w f t rest all (tail_stops rest tail h) (tail_before rest tail h) ∙ kept_ended rest Literal (length (w ++ 46 ∷ (f ++ t))) h
float_number rest (fractional {fraction = f} {tail = t} run tail) h =
    ap number_at (point_first [] f t rest) ∙ fraction_begins f (t ++ rest) run.some run.all
    ∙ pointed_before [] f t rest run.all (tail_stops rest tail h) (tail_before rest tail h) ∙ kept_ended rest Literal (length (46 ∷ (f ++ t))) h
float_number rest (pointless {whole = w} {tail = t} d tail some) h =
    ap number_at (append_assoc w t rest)
    ∙ begins_decimal (t ++ rest) d (tail_starts goes_on e_goes_on f_goes_on rest tail (λ e. starts_less goes_on is_word goes_on_word rest h))
    ∙ decimal_tail w t rest (tail_starts (either 46 46) e_point f_point rest tail (λ e. absurd (omega (arith, e, some)))) (tail_before rest tail h) some
    ∙ kept_ended rest Literal (length (w ++ t)) h

form_number : {piece : List ℕ} {number : Number} (rest : List ℕ) → IsNumber piece number → starts is_word rest ≡ false → NoPoint piece rest number → number_at (piece ++ rest) ≡ kept number (length piece)
form_number rest (whole w) h point = whole_number rest w h point
form_number rest (float f) h point = float_number rest f h

-- What numbers begin with.
digit_begins : (d : ℕ) → is_between 49 57 d ≡ true → begins_number d ≡ true
digit_begins d h = grind (arith, nat_tests, common_steps)

decimal_begins : {bytes : List ℕ} (rest : List ℕ) → IsDecimal bytes → starts begins_number (bytes ++ rest) ≡ true
decimal_begins rest nought = refl
decimal_begins rest (counted {d = d} high all) = digit_begins d high

starts_alone : (test : ℕ → Bool) (bytes : List ℕ) → starts test (bytes ++ []) ≡ true → starts test bytes ≡ true
starts_alone test [] h = h
starts_alone test (b ∷ bytes) h = h

pub whole_begins : {bytes : List ℕ} {size : ℕ} → IsWhole bytes size → starts begins_number bytes ≡ true
whole_begins (decimal {digits = ds} d) = starts_alone begins_number ds (decimal_begins [] d)
whole_begins (octal run) = refl
whole_begins (hexadecimal is run) = refl

pub float_begins : {bytes : List ℕ} → IsFloat bytes → starts begins_number bytes ≡ true
float_begins (pointed {tail = t} d f all tail) = decimal_begins (46 ∷ f ++ t) d
float_begins (fractional run tail) = refl
float_begins (pointless {tail = t} d tail some) = decimal_begins t d

pub form_begins : {bytes : List ℕ} {n : Number} → IsNumber bytes n → starts begins_number bytes ≡ true
form_begins (whole w) = whole_begins w
form_begins (float f) = float_begins f

-- A number before a rest is read.
point_is : (b : ℕ) → either 46 46 b ≡ true → b ≡ 46
point_is b h = grind (arith, nat_tests, common_steps)

not_nothing : (b : ℕ) (bytes : List ℕ) → b ∷ bytes ≡ [] → ⊥
not_nothing b bytes e = cc

no_point : {piece : List ℕ} (rest : List ℕ) (number : Number) → IsNumberBefore rest piece number → NoPoint piece rest number
no_point rest Literal n = tt
no_point {piece = p} rest (Whole size) n = λ d. either_way (starts (either 46 46) rest) (λ yes.
    let f = first_byte (either 46 46) rest yes in
    let point : f.byte ≡ 46 = point_is f.byte f.yes in
    let same : rest ≡ 46 ∷ f.more = f.same ∙ ap (λ (b : ℕ). b ∷ f.more) point in
    absurd (not_nothing 46 [] (n.longest (46 ∷ []) f.more Literal same (float (pointed {whole = p} {tail = []} d [] tt bare)))))
    (λ no. no)

pub kept_fits : (number : Number) (len : ℕ) → FitsIn64 number → kept number len ≡ Some (number, len)
kept_fits (Whole size) len h = rw (lt-ltb size (2 ^ 64) h) refl
kept_fits Literal len h = refl

pub number_before : {piece : List ℕ} {number : Number} (rest : List ℕ) → IsNumberBefore rest piece number → number_at (piece ++ rest) ≡ Some (number, length piece)
number_before {piece = piece} {number = number} rest n = form_number rest n.form n.ended (no_point rest number n) ∙ kept_fits number (length piece) n.fits

-- The longest number is the one that is read.
kept_size : (c : Bool) (size : ℕ) (other : Number) (len other_len : ℕ) → cond {A = Option (Number × ℕ)} c (Some (Whole size, len)) None ≡ Some (other, other_len) → len ≡ other_len
kept_size true size other len other_len e = ap (λ (p : Number × ℕ). p.1) (same_Some (Whole size, len) (other, other_len) e)
kept_size false size other len other_len e = absurd (none-some (other, other_len) e)

kept_len : (number other : Number) (len other_len : ℕ) → kept number len ≡ Some (other, other_len) → len ≡ other_len
kept_len (Whole size) other len other_len e = kept_size (nat_lt size (2 ^ 64)) size other len other_len e
kept_len Literal other len other_len e = ap (λ (p : Number × ℕ). p.1) (same_Some (Literal, len) (other, other_len) e)

no_more : (piece more : List ℕ) → length (piece ++ more) ≡ length piece → more ≡ []
no_more piece [] e = refl
no_more piece (b ∷ more) e = absurd (omega (arith, e, length-append piece (b ∷ more)))

no_point_front : (piece rest more others : List ℕ) (number : Number) → rest ≡ more ++ others → NoPoint piece rest number → NoPoint piece more number
no_point_front piece rest more others (Whole size) same h = λ d. starts_front (either 46 46) rest more others same (h d)
no_point_front piece rest more others Literal same h = tt

no_point_end : (piece : List ℕ) (number : Number) → NoPoint piece [] number
no_point_end piece (Whole size) = λ d. refl
no_point_end piece Literal = tt

is_longest : (piece rest : List ℕ) (number : Number) → IsNumber piece number → starts is_word rest ≡ false → NoPoint piece rest number → FitsIn64 number
    → (more others : List ℕ) (other : Number) → rest ≡ more ++ others → IsNumber (piece ++ more) other → more ≡ []
is_longest piece rest number form h point fits more others other same longer =
    let here : number_at (piece ++ more) ≡ Some (number, length piece) =
    form_number more form (starts_front is_word rest more others same h) (no_point_front piece rest more others number same point) ∙ kept_fits number (length piece) fits in
    let there : number_at (piece ++ more) ≡ kept other (length (piece ++ more)) =
    ap number_at (sym (append-nil (piece ++ more))) ∙ form_number [] longer refl (no_point_end (piece ++ more) other) in
    no_more piece more (kept_len other number (length (piece ++ more)) (length piece) (sym there ∙ here))

-- What is read is a number before a rest.
pub record NumberOf (bytes : List ℕ) (number : Number) (len : ℕ) : Type 0 where
  pub piece : List ℕ
  pub rest : List ℕ
  pub same : bytes ≡ piece ++ rest
  pub len_is : len ≡ length piece
  pub before : IsNumberBefore rest piece number

abbrev pub Reads : List ℕ → Option (Number × ℕ) → Type 0
Reads bytes None = Unit {0}
Reads bytes (Some found) = NumberOf bytes found.0 found.1

reads_kept : (piece rest : List ℕ) (number : Number) (len : ℕ) → len ≡ length piece → IsNumber piece number → starts is_word rest ≡ false → NoPoint piece rest number → FitsIn64 number
    → Reads (piece ++ rest) (Some (number, len))
reads_kept piece rest number len e form h point fits =
    record { piece = piece; rest = rest; same = refl; len_is = e; before = record { form = form; longest = is_longest piece rest number form h point fits; ended = h; fits = fits } }

reads_fitting : (piece rest : List ℕ) (number : Number) (len : ℕ) → len ≡ length piece → IsNumber piece number → starts is_word rest ≡ false → NoPoint piece rest number
    → Reads (piece ++ rest) (kept number len)
reads_fitting piece rest (Whole size) len e form h point =
    by_cases (Reads (piece ++ rest)) (nat_lt size (2 ^ 64)) (Some (Whole size, len)) None (λ yes. reads_kept piece rest (Whole size) len e form h point (ltb-true size (2 ^ 64) yes)) (λ no. tt)
reads_fitting piece rest Literal len e form h point = reads_kept piece rest Literal len e form h point tt

reads_form : (piece rest : List ℕ) (number : Number) (len : ℕ) → len ≡ length piece → IsNumber piece number → NoPoint piece rest number → Reads (piece ++ rest) (kept_before rest number len)
reads_form piece rest number len e form point =
    by_cases (Reads (piece ++ rest)) (starts is_word rest) None (kept number len) (λ yes. tt) (λ no. reads_fitting piece rest number len e form no point)

-- Literals with a point.
pointed_reads : (front fraction rest : List ℕ) → AreAll is_digit fraction → starts is_digit rest ≡ false → ((tail : List ℕ) → IsTail tail → IsFloat (front ++ 46 ∷ (fraction ++ tail)))
    → Reads (front ++ 46 ∷ (fraction ++ rest)) (pointed_at (length front) (front ++ 46 ∷ (fraction ++ rest)))
pointed_reads front fraction rest all stops form =
    let t = tail_of rest in
    let stopped : starts is_digit (t.front ++ t.rest) ≡ false = sym (ap (starts is_digit) t.same) ∙ stops in
    let counted_tail : tail_len (t.front ++ t.rest) ≡ length t.front = sym (ap tail_len t.same) ∙ t.counted in
    let piece = front ++ 46 ∷ (fraction ++ t.front) in
    let read = reads_form piece t.rest Literal (length piece) refl (float (form t.front t.form)) tt in
    let there = subst (Reads (piece ++ t.rest)) (sym (pointed_before front fraction t.front t.rest all stopped counted_tail)) read in
    let placed = subst (λ (xs : List ℕ). Reads xs (pointed_at (length front) (front ++ 46 ∷ (fraction ++ (t.front ++ t.rest))))) (point_first front fraction t.front t.rest) there in
    subst (λ (xs : List ℕ). Reads (front ++ 46 ∷ (fraction ++ xs)) (pointed_at (length front) (front ++ 46 ∷ (fraction ++ xs)))) (sym t.same) placed

-- Numbers that begin with a decimal.
point_reads : (front more : List ℕ) → IsDecimal front → Reads (front ++ 46 ∷ more) (decimal_at (length front) (front ++ 46 ∷ more))
point_reads front more d =
    let r = run_of is_digit more in
    let read = pointed_reads front r.front r.rest r.all r.stops (λ tail t. pointed d r.front r.all t) in
    subst (λ (xs : List ℕ). Reads (front ++ 46 ∷ xs) (decimal_at (length front) (front ++ 46 ∷ xs))) (sym r.same)
    (subst (Reads (front ++ 46 ∷ (r.front ++ r.rest))) (sym (decimal_point front (r.front ++ r.rest))) read)

pointless_reads : (front tail rest : List ℕ) → IsDecimal front → IsTail tail → starts (either 46 46) (tail ++ rest) ≡ false → tail_len (tail ++ rest) ≡ length tail
    → Reads (front ++ (tail ++ rest)) (decimal_at (length front) (front ++ (tail ++ rest)))
pointless_reads front [] rest d t point counted_tail =
    subst (Reads (front ++ rest)) (sym (decimal_whole front rest point counted_tail)) (reads_form front rest (Whole (value_from 10 0 front)) (length front) refl (whole (decimal d)) (λ e. point))
pointless_reads front (b ∷ tail) rest d t point counted_tail =
    let some : 0 < length (b ∷ tail) = omega arith in
    subst (λ (xs : List ℕ). Reads xs (decimal_at (length front) (front ++ ((b ∷ tail) ++ rest)))) (append_assoc front (b ∷ tail) rest)
    (subst (Reads ((front ++ b ∷ tail) ++ rest)) (sym (decimal_tail front (b ∷ tail) rest point counted_tail some))
    (reads_form (front ++ b ∷ tail) rest Literal (length (front ++ b ∷ tail)) refl (float (pointless d t some)) tt))

decimal_reads : (front more : List ℕ) → IsDecimal front → Reads (front ++ more) (decimal_at (length front) (front ++ more))
decimal_reads front more d = either_way (starts (either 46 46) more)
    (λ yes.
    let p = first_byte (either 46 46) more yes in
    let same : more ≡ 46 ∷ p.more = p.same ∙ ap (λ (b : ℕ). b ∷ p.more) (point_is p.byte p.yes) in
    subst (λ (xs : List ℕ). Reads (front ++ xs) (decimal_at (length front) (front ++ xs))) (sym same) (point_reads front p.more d))
    (λ no.
    let t = tail_of more in
    let point : starts (either 46 46) (t.front ++ t.rest) ≡ false = sym (ap (starts (either 46 46)) t.same) ∙ no in
    let counted_tail : tail_len (t.front ++ t.rest) ≡ length t.front = sym (ap tail_len t.same) ∙ t.counted in
    subst (λ (xs : List ℕ). Reads (front ++ xs) (decimal_at (length front) (front ++ xs))) (sym t.same) (pointless_reads front t.front t.rest d t.form point counted_tail))

-- Numbers that begin with 0.
one_long : {bytes : List ℕ} → IsDecimal bytes → starts (λ b. b == 48) bytes ≡ true → length bytes ≡ 1
one_long nought h = refl
one_long (counted {d = d} high all) h = absurd (false≢true (sym (high_digit d high).2 ∙ h))

octal_reads : (bytes : List ℕ) → starts is_octal bytes ≡ true → Reads (48 ∷ bytes) (number_at (48 ∷ bytes))
octal_reads bytes h =
    let r = run_of is_octal bytes in
    let run = run_some is_octal bytes r h in
    let len : 1 + length r.front ≡ length (48 ∷ r.front) = omega arith in
    let read = reads_form (48 ∷ r.front) r.rest (Whole (value_from 8 0 r.front)) (1 + length r.front) len (whole (octal run))
    (λ d. absurd (omega (arith, run.some, one_long d refl))) in
    subst (λ (xs : List ℕ). Reads (48 ∷ xs) (number_at (48 ∷ xs))) (sym r.same)
    (subst (Reads (48 ∷ r.front ++ r.rest)) (sym (octal_before r.front r.rest run.some run.all r.stops)) read)

no_hex : (x : ℕ) (bytes : List ℕ) → either 120 88 x ≡ true → starts is_hex bytes ≡ false → number_at (48 ∷ x ∷ bytes) ≡ None
unfolding number_at zero_at
no_hex x bytes h stops =
    let n : prefix_len is_hex bytes ≡ 0 = run_before is_hex [] bytes tt stops in
    rw (h, n) refl

hex_reads : (x : ℕ) (bytes : List ℕ) → either 120 88 x ≡ true → Reads (48 ∷ x ∷ bytes) (number_at (48 ∷ x ∷ bytes))
hex_reads x bytes h = either_way (starts is_hex bytes)
    (λ yes.
    let r = run_of is_hex bytes in
    let run = run_some is_hex bytes r yes in
    let len : 2 + length r.front ≡ length (48 ∷ x ∷ r.front) = omega arith in
    let read = reads_form (48 ∷ x ∷ r.front) r.rest (Whole (value_from 16 0 r.front)) (2 + length r.front) len (whole (hexadecimal h run))
    (λ d. absurd (omega (arith, run.some, one_long d refl))) in
    subst (λ (xs : List ℕ). Reads (48 ∷ x ∷ xs) (number_at (48 ∷ x ∷ xs))) (sym r.same)
    (subst (Reads (48 ∷ x ∷ r.front ++ r.rest)) (sym (hex_before x r.front r.rest h run.some run.all r.stops)) read))
    (λ no. subst (Reads (48 ∷ x ∷ bytes)) (sym (no_hex x bytes h no)) tt)

nought_begins : (bytes : List ℕ) → starts (either 120 88) bytes ≡ false → starts is_octal bytes ≡ false → number_at (48 ∷ bytes) ≡ decimal_at 1 (48 ∷ bytes)
unfolding number_at zero_at
nought_begins bytes x o = rw (x, o) refl

zero_reads : (bytes : List ℕ) → Reads (48 ∷ bytes) (number_at (48 ∷ bytes))
zero_reads bytes = either_way (starts (either 120 88) bytes)
    (λ yes. let p = first_byte (either 120 88) bytes yes in
    subst (λ (xs : List ℕ). Reads (48 ∷ xs) (number_at (48 ∷ xs))) (sym p.same) (hex_reads p.byte p.more p.yes))
    (λ no. either_way (starts is_octal bytes) (octal_reads bytes)
    (λ other. subst (Reads (48 ∷ bytes)) (sym (nought_begins bytes no other)) (decimal_reads (48 ∷ []) bytes nought)))

-- Numbers that begin with a point or another digit.
no_fraction : (bytes : List ℕ) → starts is_digit bytes ≡ false → number_at (46 ∷ bytes) ≡ None
unfolding number_at
no_fraction bytes h = rw h refl

fraction_reads : (bytes : List ℕ) → Reads (46 ∷ bytes) (number_at (46 ∷ bytes))
fraction_reads bytes = either_way (starts is_digit bytes)
    (λ yes.
    let r = run_of is_digit bytes in
    let run = run_some is_digit bytes r yes in
    subst (λ (xs : List ℕ). Reads (46 ∷ xs) (number_at (46 ∷ xs))) (sym r.same)
    (subst (Reads (46 ∷ (r.front ++ r.rest))) (sym (fraction_begins r.front r.rest run.some run.all))
    (pointed_reads [] r.front r.rest r.all r.stops (λ tail t. fractional run t))))
    (λ no. subst (Reads (46 ∷ bytes)) (sym (no_fraction bytes no)) tt)

high_begins : (d : ℕ) (digits more : List ℕ) → is_between 49 57 d ≡ true → AreAll is_digit digits → starts is_digit more ≡ false
    → number_at (d ∷ digits ++ more) ≡ decimal_at (length (d ∷ digits)) (d ∷ digits ++ more)
unfolding number_at
high_begins d digits more high all stops =
    let p = high_digit d high in
    let n : prefix_len is_digit (digits ++ more) ≡ length digits = run_before is_digit digits more all stops in
    let len : 1 + length digits ≡ length (d ∷ digits) = omega arith in
    rw (p.1, p.2, n, len) refl

high_reads : (d : ℕ) (bytes : List ℕ) → is_between 49 57 d ≡ true → Reads (d ∷ bytes) (number_at (d ∷ bytes))
high_reads d bytes high =
    let r = run_of is_digit bytes in
    subst (λ (xs : List ℕ). Reads (d ∷ xs) (number_at (d ∷ xs))) (sym r.same)
    (subst (Reads (d ∷ r.front ++ r.rest)) (sym (high_begins d r.front r.rest high r.all r.stops)) (decimal_reads (d ∷ r.front) r.rest (counted high r.all)))

is_high : (b : ℕ) → begins_number b ≡ true → (b == 46) ≡ false → (b == 48) ≡ false → is_between 49 57 b ≡ true
is_high b h point zero_digit = grind (arith, nat_tests, common_steps)

pub number_reads : (b : ℕ) (bytes : List ℕ) → begins_number b ≡ true → Reads (b ∷ bytes) (number_at (b ∷ bytes))
number_reads b bytes h = either_way (b == 46)
    (λ yes. subst (λ (n : ℕ). Reads (n ∷ bytes) (number_at (n ∷ bytes))) (sym (eqb-true b 46 yes)) (fraction_reads bytes))
    (λ point. either_way (b == 48)
    (λ yes. subst (λ (n : ℕ). Reads (n ∷ bytes) (number_at (n ∷ bytes))) (sym (eqb-true b 48 yes)) (zero_reads bytes))
    (λ zero_digit. high_reads b bytes (is_high b h point zero_digit)))
