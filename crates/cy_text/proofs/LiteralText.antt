-- Words and numbers are texts in UTF-8, as they are ASCII.
use Rattle.std.proofs.Common.{ℕ, zero, suc, ◌≡◌, ◌+◌, ◌<◌, List, [], ◌∷◌, ◌++◌, length, take, drop, get_or, Bool, true, Some, refl, ap, sym, subst, ◌∙◌, arith}
use Rattle.std.proofs.lemmas.Grind.{common_steps}
use Rattle.std.proofs.lemmas.Bool.{false≢true}
use Rattle.std.proofs.lemmas.Bool.Decides.{nat_tests}
use Rattle.std.proofs.lemmas.Str.{IsUtf8-append, IsUtf8-nil, IsUtf8-from_ascii}
use Rattle.std.proofs.Math.Seq.{take-append_seam}
use Rattle.std.specs.Str.{IsUtf8}
use Rattle.std.specs.List.{prefix_len}
use Rattle.cy_text.specs.Tokens.{begins_number}
use Rattle.cy_text.specs.Letters.{is_between, is_digit, is_letter, is_word, starts}
use Rattle.cy_text.specs.Numbers.{either, number_at}
use Rattle.cy_text.specs.Pieces.{AreAll, IsDecimal, nought, counted, IsExponent, unsigned, signed, IsTail, bare, suffix, exponent, both, IsFloat, pointed, fractional, pointless, IsNumber, whole, float}
use Rattle.cy_text.specs.declared.number.Number.{Number}
use Rattle.cy_text.specs.declared.number.Number.TheVariants.{Literal}
use Rattle.cy_text.proofs.PieceRuns.{run_before, run_of}
use Rattle.cy_text.proofs.Numerals.{NumberOf, Reads, number_reads}

one_ascii : (b : ℕ) → b < 128 → (i : ℕ) → get_or (b ∷ []) i 0 < 128
one_ascii b h zero = h
one_ascii b h (suc i) = omega arith

cons_text : (b : ℕ) (bs : List ℕ) → b < 128 → IsUtf8 bs → IsUtf8 (b ∷ bs)
cons_text b bs h text = IsUtf8-append (b ∷ []) bs (IsUtf8-from_ascii (b ∷ []) (one_ascii b h)) text

all_text : (test : ℕ → Bool) → ((b : ℕ) → test b ≡ true → b < 128) → (bs : List ℕ) → AreAll test bs → IsUtf8 bs
all_text test ascii [] all = IsUtf8-nil
all_text test ascii (b ∷ bs) all = cons_text b bs (ascii b all.0) (all_text test ascii bs all.1)

digit_ascii : (b : ℕ) → is_digit b ≡ true → b < 128
digit_ascii b h = grind (arith, nat_tests, common_steps)

word_ascii : (b : ℕ) → is_word b ≡ true → b < 128
word_ascii b h = grind (arith, nat_tests, common_steps)

letter_ascii : (b : ℕ) → is_letter b ≡ true → b < 128
letter_ascii b h = grind (arith, nat_tests, common_steps)

high_ascii : (b : ℕ) → is_between 49 57 b ≡ true → b < 128
high_ascii b h = grind (arith, nat_tests, common_steps)

either_ascii : (x y : ℕ) → x < 128 → y < 128 → (b : ℕ) → either x y b ≡ true → b < 128
either_ascii x y p q b h = grind (arith, nat_tests, common_steps)

e_ascii : (b : ℕ) → either 101 69 b ≡ true → b < 128
e_ascii b h = either_ascii 101 69 (omega arith) (omega arith) b h

f_ascii : (b : ℕ) → either 102 70 b ≡ true → b < 128
f_ascii b h = either_ascii 102 70 (omega arith) (omega arith) b h

sign_ascii : (b : ℕ) → either 43 45 b ≡ true → b < 128
sign_ascii b h = either_ascii 43 45 (omega arith) (omega arith) b h

-- The forms of floats.
digits_text : (digits : List ℕ) → AreAll is_digit digits → IsUtf8 digits
digits_text digits all = all_text is_digit digit_ascii digits all

decimal_text : {bytes : List ℕ} → IsDecimal bytes → IsUtf8 bytes
decimal_text nought = cons_text 48 [] (omega arith) IsUtf8-nil
decimal_text (counted {d = d} {digits = ds} high all) = cons_text d ds (high_ascii d high) (digits_text ds all)

exponent_text : {bytes : List ℕ} → IsExponent bytes → IsUtf8 bytes
exponent_text (unsigned {e = x} {digits = ds} h run) = cons_text x ds (e_ascii x h) (digits_text ds run.all)
exponent_text (signed {e = x} {sign = s} {digits = ds} h sign run) = cons_text x (s ∷ ds) (e_ascii x h) (cons_text s ds (sign_ascii s sign) (digits_text ds run.all))

tail_text : {bytes : List ℕ} → IsTail bytes → IsUtf8 bytes
tail_text bare = IsUtf8-nil
tail_text (suffix {f = f} is) = cons_text f [] (f_ascii f is) IsUtf8-nil
tail_text (exponent form) = exponent_text form
tail_text (both {e = x} form f is) = IsUtf8-append x (f ∷ []) (exponent_text form) (cons_text f [] (f_ascii f is) IsUtf8-nil)

behind_point : {tail : List ℕ} (fraction : List ℕ) → AreAll is_digit fraction → IsTail tail → IsUtf8 (46 ∷ (fraction ++ tail))
behind_point {tail = t} fraction all tail = cons_text 46 (fraction ++ t) (omega arith) (IsUtf8-append fraction t (digits_text fraction all) (tail_text tail))

float_text : {bytes : List ℕ} → IsFloat bytes → IsUtf8 bytes
float_text (pointed {whole = w} {tail = t} d fraction all tail) = IsUtf8-append w (46 ∷ (fraction ++ t)) (decimal_text d) (behind_point fraction all tail)
float_text (fractional {fraction = fraction} run tail) = behind_point fraction run.all tail
float_text (pointless {whole = w} {tail = t} d tail some) = IsUtf8-append w t (decimal_text d) (tail_text tail)

literal_text : {bytes : List ℕ} {number : Number} → IsNumber bytes number → number ≡ Literal → IsUtf8 bytes
literal_text (whole w) e = absurd (cc)
literal_text (float f) e = float_text f

-- What stands in front is one.
pub prefix_word : (bs : List ℕ) → starts is_letter bs ≡ true → IsUtf8 (take (1 + prefix_len is_word (drop 1 bs)) bs)
prefix_word [] h = absurd (false≢true h)
prefix_word (b ∷ bs) h =
    let r = run_of is_word bs in
    let count : prefix_len is_word bs ≡ length r.front = ap (prefix_len is_word) r.same ∙ run_before is_word r.front r.rest r.all r.stops in
    let len : 1 + length r.front ≡ length (b ∷ r.front) = omega arith in
    let front : take (1 + prefix_len is_word bs) (b ∷ bs) ≡ b ∷ r.front =
    ap (λ (n : ℕ). take (1 + n) (b ∷ bs)) count ∙ ap (λ (n : ℕ). take n (b ∷ bs)) len ∙ ap (λ (xs : List ℕ). take (length (b ∷ r.front)) (b ∷ xs)) r.same
    ∙ take-append_seam (b ∷ r.front) r.rest in
    subst IsUtf8 (sym front) (cons_text b r.front (letter_ascii b h) (all_text is_word word_ascii r.front r.all))

number_text : (n : ℕ) (bytes : List ℕ) → NumberOf bytes Literal n → IsUtf8 (take n bytes)
number_text n bytes r =
    let front : take n bytes ≡ r.piece =
    ap (λ (m : ℕ). take m bytes) r.len_is ∙ ap (take (length r.piece)) r.same ∙ take-append_seam r.piece r.rest in
    subst IsUtf8 (sym front) (literal_text r.before.form refl)

pub prefix_literal : (n : ℕ) (bs : List ℕ) → starts begins_number bs ≡ true → number_at bs ≡ Some (Literal, n) → IsUtf8 (take n bs)
prefix_literal n [] h e = absurd (false≢true h)
prefix_literal n (b ∷ bs) h e = number_text n (b ∷ bs) (subst (Reads (b ∷ bs)) e (number_reads b bs h))
