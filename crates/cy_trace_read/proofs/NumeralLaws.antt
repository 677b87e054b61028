-- Numbers in decimal: what spells them, and what they are spelled by.
use Rattle.std.proofs.Common.{ℕ, zero, suc, ◌≡◌, ◌^◌, ◌<◌, ◌≤◌, ◌≢◌, ◌==◌, ◌&&◌, ◌⊎◌, inl, inr, not, nat_lt, true, List, [], ◌∷◌, length, get_or, Option, Some, None, Result, Ok, Err, refl, ap, sym, ◌∙◌, arith}
use Rattle.std.proofs.lemmas.Bool.{and_parts, and_from, not-true, ltb-false, le-ltb, ne_eqb}
use Rattle.std.proofs.lemmas.Option.{cond_some}
use Rattle.std.proofs.lemmas.Result.{OkIff-at_ok}
use Rattle.std.proofs.lemmas.Slice.Eq.{bytes_eq-Decides}
use Rattle.std.proofs.lemmas.Fmt.{decimal_is_IsNumeral, decimal-digits_value, parse-decimal, IsAscii-decimal, first_decimal, decimal_injective, decimal_digit}
use Rattle.std.proofs.lemmas.Str.{IsUtf8-from_ascii}
use Rattle.std.proofs.lemmas.Str.Parse.{IsNumeralModel, numerals_by_value, tells_digits, parse_plain, digit_from_value}
use Rattle.std.specs.Str.{IsUtf8, bytes_eq}
use Rattle.std.specs.Str.Parse.{AllDigits, digits_value, ParsesUnsigned}
use Rattle.std.specs.Int.{IsInRange}
use Rattle.std.specs.Fmt.{decimal}
use Rattle.cy_trace.specs.Cuts.{lacks}
use Rattle.cy_trace_read.specs.Numerals.{number}

own : IsNumeralModel (AllDigits 10) (digits_value 10)
own = numerals_by_value (AllDigits 10) tells_digits

-- the number that some digits spell is found
pub number_finds : (most n : ℕ) (word : List ℕ) → n ≤ most → n < 2 ^ 64 → word ≡ decimal n → number most word ≡ Some n
unfolding number
number_finds most n word fits small is =
    let value : digits_value 10 word ≡ n = ap (digits_value 10) is ∙ (decimal_is_IsNumeral n small).1 in
    rw (value, le-ltb most n fits, (bytes_eq-Decides word (decimal n)).1 is) refl

pub number_spells : (most n : ℕ) (word : List ℕ) → number most word ≡ Some n → (n ≤ most) × (word ≡ decimal n)
unfolding number
number_spells most n word h =
    let v = digits_value 10 word in
    let c = cond_some (not (nat_lt most v) && bytes_eq word (decimal v)) v n h in
    let p = and_parts (not (nat_lt most v)) (bytes_eq word (decimal v)) c.0 in
    let fits : v ≤ most = ltb-false most v (not-true (nat_lt most v) p.0) in
    let spelled : word ≡ decimal v = (bytes_eq-Decides word (decimal v)).0 p.1 in
    rw (← c.1) (fits, spelled)

at_none : (o : Option ℕ) → ((n : ℕ) → o ≡ Some n → ⊥) → None ≡ o
at_none None h = refl
at_none (Some n) h = absurd (h n refl)

pub no_number : (most : ℕ) (word : List ℕ) → ((n : ℕ) → n ≤ most → word ≡ decimal n → ⊥) → None ≡ number most word
no_number most word h = at_none (number most word) (λ n e. let s = number_spells most n word e in h n s.0 s.1)

-- digits lack marks
lacks_digits : (mark : ℕ) (ds : List ℕ) → ¬ (IsInRange 48 57 mark) → AllDigits 10 ds → lacks mark ds ≡ true
lacks_digits mark [] other digits = refl
lacks_digits mark (d ∷ ds) other digits =
    and_from (not (d == mark)) (lacks mark ds) (ap not (ne_eqb d mark (λ e. other (rw e at (digit_from_value d digits.0))))) (lacks_digits mark ds other digits.1)

pub lacks_decimal : (mark n : ℕ) → ¬ (IsInRange 48 57 mark) → n < 2 ^ 64 → lacks mark (decimal n) ≡ true
lacks_decimal mark n other small = lacks_digits mark (decimal n) other (decimal_is_IsNumeral n small).0.1

-- digits begin with no sign, and with no zero before others
pub plain_decimal : (n : ℕ) → n < 2 ^ 64 → (get_or (decimal n) 0 0 ≢ 43) × (get_or (decimal n) 0 0 ≡ 48 → length (decimal n) ≤ 1)
plain_decimal zero small = rw (decimal_digit 0 (omega arith)) ((λ e. omega arith), (λ e. omega arith))
plain_decimal (suc n) small =
    let above : 48 < get_or (decimal (suc n)) 0 0 = first_decimal (suc n) (omega arith) small in
    let digit : AllDigits 10 (decimal (suc n)) = (decimal_is_IsNumeral (suc n) small).0.1 in
    ((λ e. omega (arith, e, above)), (λ e. omega (arith, e, above)))

pub decimal_text : (n : ℕ) → n < 2 ^ 64 → IsUtf8 (decimal n)
decimal_text n small = IsUtf8-from_ascii (decimal n) (IsAscii-decimal n small)

-- what `parse` says of a word without a sign and without leading zeros
pub parsed_spells : {E : Type 0} (word : List ℕ) (r : Result ℕ E) (n : ℕ) → ParsesUnsigned 64 10 word r → r ≡ Ok n → get_or word 0 0 ≢ 43
    → (get_or word 0 0 ≡ 48 → length word ≤ 1) → word ≡ decimal n
parsed_spells word r n parses is plain first =
    let ok = OkIff-at_ok r _ (digits_value 10 word) n (parse_plain own 64 word r parses plain) is in
    let alone : get_or word 0 0 ≡ 48 → length word ≡ 1 = λ e. omega (arith, first e, ok.0.1) in
    sym (ap decimal ok.1 ∙ decimal-digits_value own word ok.0.0 ok.0.1 alone ok.0.2)

err_ok : {T E : Type 0} (e : E) (x : T) → ◌≡◌ {A = Result T E} (Err e) (Ok x) → ⊥
err_ok e x h = cc

pub unparsed : {E : Type 0} (word : List ℕ) (r : Result ℕ E) (e : E) → ParsesUnsigned 64 10 word r → r ≡ Err e → (n : ℕ) → n < 2 ^ 64 → word ≡ decimal n → ⊥
unparsed word r e parses is n small spelled = err_ok e n (sym is ∙ parse-decimal 64 n word r small small spelled parses)

pub not_plain : (n : ℕ) (word : List ℕ) → n < 2 ^ 64 → word ≡ decimal n → (get_or word 0 0 ≡ 43) ⊎ ((get_or word 0 0 ≡ 48) × (1 < length word)) → ⊥
not_plain n word small is h =
    let p = plain_decimal n small in
    elim (rw is at h) [ inl sign ↦ p.0 sign | inr zeros ↦ omega (arith, p.1 zeros.0, zeros.1) ]

pub other_number : (m n most : ℕ) (word : List ℕ) → m < 2 ^ 64 → n < 2 ^ 64 → word ≡ decimal m → word ≡ decimal n → m ≤ most → most < n → ⊥
other_number m n most word p q first second fits large = omega (arith, decimal_injective m n p q (sym first ∙ second))
