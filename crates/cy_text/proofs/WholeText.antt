-- Whole numbers in decimal.
use Rattle.std.proofs.Common.{ℕ, zero, suc, ◌≡◌, ◌+◌, ◌*◌, ◌/◌, ◌%◌, ◌^◌, ◌<◌, ◌≤◌, List, [], ◌∷◌, ◌++◌, length, true, Some, refl, ◌∙◌, subst, arith, decimal}
use Rattle.std.proofs.lemmas.Grind.{common_steps}
use Rattle.std.proofs.lemmas.Bool.Decides.{nat_tests}
use Rattle.std.proofs.lemmas.Fmt.{decimal_by_steps}
use Rattle.cy_text.specs.Letters.{is_between, is_digit, digit_of, starts}
use Rattle.cy_text.specs.Numbers.{value_from, number_at}
use Rattle.cy_text.specs.Tokens.{begins_number}
use Rattle.cy_text.specs.Pieces as pieces
use Rattle.cy_text.specs.Pieces.{IsDecimal, nought, counted, IsWhole}
use Rattle.cy_text.specs.declared.number.Number.TheVariants.{Whole}
use Rattle.cy_text.proofs.PieceRuns.{all_and}
use Rattle.cy_text.proofs.Numerals.{whole_begins, whole_number, kept_fits}

-- The digits of a number.
record IsSaid (n : ℕ) (ds : List ℕ) : Type 0 where
  pub value : value_from 10 0 ds ≡ n
  pub form : IsDecimal ds

digit_byte : (n : ℕ) → n < 10 → is_digit (48 + n) ≡ true
digit_byte n h = grind (arith, nat_tests, common_steps)

digit_value : (n : ℕ) → n < 10 → digit_of (48 + n) ≡ n
digit_value n h = grind (arith, nat_tests, common_steps)

high_digit : (n : ℕ) → 0 < n → n < 10 → is_between 49 57 (48 + n) ≡ true
high_digit n some h = grind (arith, nat_tests, common_steps)

one_form : (n : ℕ) → n < 10 → IsDecimal ((48 + n) ∷ [])
one_form zero h = nought
one_form (suc n) h = counted (high_digit (suc n) (omega arith) h) tt

one_digit : (n : ℕ) → n < 10 → IsSaid n ((48 + n) ∷ [])
one_digit n h = record { value = rw (digit_value n h) (omega arith); form = one_form n h }

value_more : (base v : ℕ) (ds : List ℕ) (d : ℕ) → value_from base v (ds ++ d ∷ []) ≡ value_from base v ds * base + digit_of d
value_more base v [] d = refl
value_more base v (c ∷ ds) d = value_more base (v * base + digit_of c) ds d

form_more : {ds : List ℕ} (d : ℕ) → IsDecimal ds → 0 < value_from 10 0 ds → is_digit d ≡ true → IsDecimal (ds ++ d ∷ [])
form_more d nought some h = absurd (omega (arith, some))
form_more d (counted {digits = ds} high all) some h = counted high (all_and is_digit ds d all h)

more_digits : (n : ℕ) (ds : List ℕ) → 10 ≤ n → IsSaid (n / 10) ds → IsSaid n (ds ++ (48 + n % 10) ∷ [])
more_digits n ds h p =
    let small : n % 10 < 10 = omega arith in
    let whole : n / 10 * 10 + n % 10 ≡ n = omega arith in
    let some : 0 < value_from 10 0 ds = rw (p.value) (omega arith) in
    record {
      value = value_more 10 0 ds (48 + n % 10) ∙ rw (p.value, digit_value (n % 10) small) whole;
      form = form_more (48 + n % 10) p.form some (digit_byte (n % 10) small);
    }

decimal_is : (n : ℕ) → n < 2 ^ 64 → IsSaid n (decimal n)
decimal_is n h = decimal_by_steps IsSaid one_digit more_digits n h

-- A number in decimal at the end of a line.
pub whole_line : (n : ℕ) (rest : List ℕ) → n < 2 ^ 64 → (starts begins_number (decimal n) ≡ true) × (number_at (decimal n ++ 10 ∷ rest) ≡ Some (Whole n, length (decimal n)))
whole_line n rest h =
    let p = decimal_is n h in
    let form : IsWhole (decimal n) n = subst (IsWhole (decimal n)) p.value (pieces.decimal p.form) in
    (whole_begins form, whole_number (10 ∷ rest) form refl (λ d. refl) ∙ kept_fits (Whole n) (length (decimal n)) h)
