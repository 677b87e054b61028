-- Strings that are printed in quotes.
use Rattle.std.proofs.Common.{ℕ, ◌≡◌, ◌+◌, ◌*◌, ◌/◌, ◌%◌, ◌<◌, ◌==◌, nat_lt, ◌||◌, List, [], ◌∷◌, ◌++◌, length, length-append, Bool, true, false, cond, Some, Ok, ◌⊎◌, inl, inr, refl, ap, sym, subst, ◌∙◌, arith, append_assoc, append-nil}
use Rattle.std.proofs.lemmas.Grind.{common_steps}
use Rattle.std.proofs.lemmas.Bool.{false≢true, eqb-true}
use Rattle.std.proofs.lemmas.Bool.Decides.{nat_tests}
use Rattle.std.proofs.lemmas.List.Elements.{recursion_from_All}
use Rattle.std.specs.Prelude.{All}
use Rattle.std.specs.List.{flat_map, AllByRecursion}
use Rattle.cy_msg.specs.Quoted.{octal, escaped, quoted}
use Rattle.cy_text.specs.Letters.{is_octal, digit_of}
use Rattle.cy_text.specs.Numbers.{value_of}
use Rattle.cy_text.specs.Strings.{simple_escape, octal_escape, escape_at, string_from, string_at}
use Rattle.cy_text.specs.Strings as strings

-- A piece of a string in quotes stands for a byte.
abbrev pub StandsFor : List ℕ → ℕ → Type 0
StandsFor piece b = (start : ℕ) (out : List ℕ) (at : ℕ) (rest : List ℕ)
    → string_from start 34 out at 0 (piece ++ rest) ≡ string_from start 34 (out ++ b ∷ []) (at + length piece) 0 rest

plain_byte : (b : ℕ) → (b == 34) ≡ false → (b == 10) ≡ false → (b == 92) ≡ false → StandsFor (b ∷ []) b
unfolding string_from
plain_byte b quote newline slash start out at rest = rw (quote, newline, slash) refl

slash_quote : StandsFor (92 ∷ 34 ∷ []) 34
unfolding string_from strings.escaped escape_at simple_escape
slash_quote start out at rest = ap (λ (n : ℕ). string_from start 34 (out ++ 34 ∷ []) n 0 rest) (omega arith)

slash_slash : StandsFor (92 ∷ 92 ∷ []) 92
unfolding string_from strings.escaped escape_at simple_escape
slash_slash start out at rest = ap (λ (n : ℕ). string_from start 34 (out ++ 92 ∷ []) n 0 rest) (omega arith)

slash_newline : StandsFor (92 ∷ 110 ∷ []) 10
unfolding string_from strings.escaped escape_at simple_escape
slash_newline start out at rest = ap (λ (n : ℕ). string_from start 34 (out ++ 10 ∷ []) n 0 rest) (omega arith)

slash_tab : StandsFor (92 ∷ 116 ∷ []) 9
unfolding string_from strings.escaped escape_at simple_escape
slash_tab start out at rest = ap (λ (n : ℕ). string_from start 34 (out ++ 9 ∷ []) n 0 rest) (omega arith)

slash_return : StandsFor (92 ∷ 114 ∷ []) 13
unfolding string_from strings.escaped escape_at simple_escape
slash_return start out at rest = ap (λ (n : ℕ). string_from start 34 (out ++ 13 ∷ []) n 0 rest) (omega arith)

-- Three octal digits.
octal_digit : (n : ℕ) → n < 8 → (is_octal (48 + n) ≡ true) × (digit_of (48 + n) ≡ n)
octal_digit n h = (grind (arith, nat_tests, common_steps), grind (arith, nat_tests, common_steps))

octal_sum : (b : ℕ) → b < 256 → ((0 * 8 + b / 64) * 8 + b / 8 % 8) * 8 + b % 8 ≡ b
octal_sum b h =
    let again : b / 8 / 8 * 8 + b / 8 % 8 ≡ b / 8 = omega arith in
    omega (arith, again)

octal_value : (b : ℕ) → b < 256 → value_of 8 ((48 + b / 64) ∷ (48 + b / 8 % 8) ∷ (48 + b % 8) ∷ []) ≡ Some b
unfolding value_of
octal_value b h =
    let first = octal_digit (b / 64) (omega arith) in
    let second = octal_digit (b / 8 % 8) (omega arith) in
    let third = octal_digit (b % 8) (omega arith) in
    rw (first.1, second.1, third.1, octal_sum b h) (grind (arith, nat_tests, common_steps))

octal_byte : (b : ℕ) → b < 256 → StandsFor (octal b) b
unfolding string_from strings.escaped escape_at octal_escape
octal_byte b h start out at rest =
    let first = octal_digit (b / 64) (omega arith) in
    let second = octal_digit (b / 8 % 8) (omega arith) in
    let third = octal_digit (b % 8) (omega arith) in
    let small : nat_lt b 256 ≡ true = grind (arith, nat_tests) in
    rw (first.0, second.0, third.0, octal_value b h, small) (ap (λ (n : ℕ). string_from start 34 (out ++ b ∷ []) n 0 rest) (omega arith))

-- Each byte as it is printed.
by_test : (c : Bool) (x y : List ℕ) (b : ℕ) → (c ≡ true → StandsFor x b) → (c ≡ false → StandsFor y b) → StandsFor (cond c x y) b
by_test true x y b p q = p refl
by_test false x y b p q = q refl

either_true : (x y : Bool) → (x || y) ≡ true → (x ≡ true) ⊎ (y ≡ true)
either_true true y h = inl refl
either_true false y h = inr h

neither_true : (x y : Bool) → (x || y) ≡ false → (x ≡ false) × (y ≡ false)
neither_true true y h = absurd (false≢true (sym h))
neither_true false y h = (refl, h)

at_byte : (b c : ℕ) (piece : List ℕ) → (b == c) ≡ true → StandsFor piece c → StandsFor piece b
at_byte b c piece e h = subst (StandsFor piece) (sym (eqb-true b c e)) h

slash_mark : (b : ℕ) → (b == 34 || b == 92) ≡ true → StandsFor (92 ∷ b ∷ []) b
slash_mark b h = elim (either_true (b == 34) (b == 92) h) [
  | inl e ↦ subst (λ (c : ℕ). StandsFor (92 ∷ c ∷ []) c) (sym (eqb-true b 34 e)) slash_quote
  | inr e ↦ subst (λ (c : ℕ). StandsFor (92 ∷ c ∷ []) c) (sym (eqb-true b 92 e)) slash_slash
]

printed_byte : (is_text : Bool) (b : ℕ) → b < 256 → StandsFor (escaped is_text b) b
unfolding escaped
printed_byte is_text b h =
    by_test (b == 34 || b == 92) _ _ b (slash_mark b) (λ mark.
    by_test (b == 10) _ _ b (λ e. at_byte b 10 (92 ∷ 110 ∷ []) e slash_newline) (λ newline.
    by_test (b == 9) _ _ b (λ e. at_byte b 9 (92 ∷ 116 ∷ []) e slash_tab) (λ tab.
    by_test (b == 13) _ _ b (λ e. at_byte b 13 (92 ∷ 114 ∷ []) e slash_return) (λ return.
    by_test (nat_lt b 32 || b == 127) _ _ b (λ e. octal_byte b h) (λ control.
    let neither = neither_true (b == 34) (b == 92) mark in
    let itself : StandsFor (b ∷ []) b = plain_byte b neither.0 newline neither.1 in
    by_test (nat_lt b 128) _ _ b (λ e. itself) (λ high. by_test is_text _ _ b (λ e. itself) (λ e. octal_byte b h)))))))

-- The bytes of a string, and the quote behind them.
bytes_read : (is_text : Bool) (bytes : List ℕ) → AllByRecursion (λ b. b < 256) bytes → (start : ℕ) (out : List ℕ) (at : ℕ) (rest : List ℕ)
    → string_from start 34 out at 0 (flat_map (escaped is_text) bytes ++ 34 ∷ rest) ≡ Ok (out ++ bytes, at + length (flat_map (escaped is_text) bytes) + 1)
unfolding string_from
bytes_read is_text [] h start out at rest = rw append-nil (ap (λ (n : ℕ). Ok (out, n)) (omega arith))
bytes_read is_text (b ∷ bytes) h start out at rest =
    let piece = escaped is_text b in
    let more = flat_map (escaped is_text) bytes in
    let end : at + length piece + length more + 1 ≡ at + length (piece ++ more) + 1 = omega (arith, length-append piece more) in
    ap (string_from start 34 out at 0) (append_assoc piece more (34 ∷ rest)) ∙ printed_byte is_text b h.0 start out at (more ++ 34 ∷ rest)
    ∙ bytes_read is_text bytes h.1 start (out ++ b ∷ []) (at + length piece) rest
    ∙ ap (λ (p : List ℕ × ℕ). Ok p) (ap (λ (all : List ℕ). (all, at + length piece + length more + 1)) (append_assoc out (b ∷ []) bytes) ∙ ap (λ (n : ℕ). (out ++ b ∷ bytes, n)) end)

-- A string in quotes, and what stands behind them.
pub quoted_read : (is_text : Bool) (bytes : List ℕ) → All (λ b. b < 256) bytes → (start : ℕ) (rest : List ℕ)
    → string_at start (quoted is_text bytes ++ rest) ≡ Ok (bytes, start + length (quoted is_text bytes))
unfolding string_at quoted
quoted_read is_text bytes h start rest =
    let inner = flat_map (escaped is_text) bytes in
    let end : start + 1 + length inner + 1 ≡ start + length (34 ∷ inner ++ 34 ∷ []) = omega (arith, length-append inner (34 ∷ [])) in
    ap (string_from start 34 [] (start + 1) 0) (append_assoc inner (34 ∷ []) rest) ∙ bytes_read is_text bytes (recursion_from_All (λ b. b < 256) bytes h) start [] (start + 1) rest
    ∙ ap (λ (n : ℕ). Ok (bytes, n)) end
