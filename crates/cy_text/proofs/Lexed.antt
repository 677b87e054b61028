-- The tokens of texts that are printed, one behind the other.
use Rattle.std.proofs.Common.{ℕ, ◌≡◌, ◌+◌, ◌-◌, ◌≤◌, List, [], ◌∷◌, ◌++◌, length, length-append, take, true, false, Some, Ok, refl, ap, sym, ◌∙◌, arith, append_assoc}
use Rattle.std.proofs.lemmas.Grind.{common_steps}
use Rattle.std.proofs.lemmas.Bool.{false≢true}
use Rattle.std.proofs.lemmas.Bool.Decides.{nat_tests}
use Rattle.std.proofs.Math.Seq.{drop-append_seam, take-append_seam}
use Rattle.std.specs.List.{prefix_len}
use Rattle.cy_text.specs.Letters.{is_blank, is_letter, is_word, starts}
use Rattle.cy_text.specs.Numbers.{number_at}
use Rattle.cy_text.specs.Strings.{string_at}
use Rattle.cy_text.specs.Tokens.{Tokens, Next, begins_token, lexeme, token_at, word_at, mark_of, begins_number, number_token, tokens_from}
use Rattle.cy_text.specs.Grammar.{on, followed}
use Rattle.cy_text.specs.Pieces.{IsWord, letters}
use Rattle.cy_text.specs.declared.number.Number.{Number}
use Rattle.cy_text.specs.declared.token.Bracket.TheVariants.{Brace}
use Rattle.cy_text.specs.declared.token.Token.{Token}
use Rattle.cy_text.specs.declared.token.Token.TheVariants as token
use Rattle.cy_text.specs.declared.token.Lexeme.{Lexeme}
use Rattle.cy_text.proofs.PieceRuns.{run_before}
use Rattle.cy_text.proofs.TokenSteps.{passed_over, with_token, token_prefix, blank_prefix}

-- The tokens of a text that stands at a place, before a rest.
abbrev pub Lexes : ℕ → List ℕ → List ℕ → List Lexeme → Type 0
Lexes at text rest ts = tokens_from at 0 (text ++ rest) ≡ followed ts (tokens_from (at + length text) 0 rest)

followed_append : (ts us : List Lexeme) (rest : Tokens) → followed (ts ++ us) rest ≡ followed ts (followed us rest)
followed_append [] us rest = refl
followed_append (t ∷ ts) us rest = ap (Next t) (followed_append ts us rest)

pub lexes_nothing : (at : ℕ) (rest : List ℕ) → Lexes at [] rest []
lexes_nothing at rest = ap (λ (n : ℕ). tokens_from n 0 rest) (omega arith)

-- one text, and another behind it
pub lexes_on : (at : ℕ) (a b rest : List ℕ) (ts us : List Lexeme) → Lexes at a (b ++ rest) ts → Lexes (at + length a) b rest us → Lexes at (a ++ b) rest (ts ++ us)
lexes_on at a b rest ts us p q =
    let end : at + length a + length b ≡ at + length (a ++ b) = omega (arith, length-append a b) in
    ap (tokens_from at 0) (append_assoc a b rest) ∙ p ∙ ap (followed ts) (q ∙ ap (λ (n : ℕ). followed us (tokens_from n 0 rest)) end) ∙ sym (followed_append ts us _)

-- A token that takes the bytes up to the rest.
pub lexes_token : (at b : ℕ) (bs rest : List ℕ) (t : Token) → begins_token b ≡ true → token_at at (b ∷ bs ++ rest) ≡ Ok (lexeme t at (at + length (b ∷ bs)))
    → Lexes at (b ∷ bs) rest (on (record { start = at; end = at + length (b ∷ bs) }) t ∷ [])
unfolding with_token
lexes_token at b bs rest t begins found =
    let n = length bs in
    let passed : at + length (b ∷ bs) - (at + 1) ≡ length bs = omega arith in
    let short : length bs ≤ length (bs ++ rest) = omega (arith, length-append bs rest) in
    let end : at + 1 + length bs ≡ at + length (b ∷ bs) = omega arith in
    token_prefix at b (bs ++ rest) begins ∙ rw found (ap (Next (lexeme t at (at + length (b ∷ bs)))) (
    ap (λ (k : ℕ). tokens_from (at + 1) k (bs ++ rest)) passed ∙ passed_over (at + 1) (length bs) (bs ++ rest) short
    ∙ ap (tokens_from (at + 1 + length bs) 0) (drop-append_seam bs rest) ∙ ap (λ (k : ℕ). tokens_from k 0 rest) end))

-- A blank.
pub lexes_blank : (at b : ℕ) (rest : List ℕ) → is_blank b ≡ true → Lexes at (b ∷ []) rest []
lexes_blank at b rest h = blank_prefix at b rest h

-- A word.
letter_begins : (b : ℕ) → is_letter b ≡ true → begins_token b ≡ true
letter_begins b h = grind (arith, nat_tests, common_steps)

word_at_prefix : (at b : ℕ) (bs rest : List ℕ) → prefix_len is_word (bs ++ rest) ≡ length bs → word_at at (b ∷ bs ++ rest) ≡ Ok (lexeme (token.Word (b ∷ bs)) at (at + length (b ∷ bs)))
unfolding word_at
word_at_prefix at b bs rest n =
    let len : 1 + length bs ≡ length (b ∷ bs) = omega arith in
    let word : take (length (b ∷ bs)) (b ∷ bs ++ rest) ≡ b ∷ bs = take-append_seam (b ∷ bs) rest in
    rw (n, len, word) refl

pub lexes_word : (at : ℕ) (text rest : List ℕ) → IsWord text → starts is_word rest ≡ false → Lexes at text rest (on (record { start = at; end = at + length text }) (token.Word text) ∷ [])
unfolding token_at
lexes_word at text rest (letters {b = b} {bytes = bs} letter all) h =
    let n : prefix_len is_word (bs ++ rest) ≡ length bs = run_before is_word bs rest all h in
    lexes_token at b bs rest (token.Word (b ∷ bs)) (letter_begins b letter) (rw letter (word_at_prefix at b bs rest n))

-- A mark.
pub lexes_colon : (at : ℕ) (rest : List ℕ) → Lexes at (58 ∷ []) rest (on (record { start = at; end = at + 1 }) token.Colon ∷ [])
unfolding token_at mark_of
lexes_colon at rest = lexes_token at 58 [] rest token.Colon refl refl

pub lexes_minus : (at : ℕ) (rest : List ℕ) → Lexes at (45 ∷ []) rest (on (record { start = at; end = at + 1 }) token.Minus ∷ [])
unfolding token_at mark_of
lexes_minus at rest = lexes_token at 45 [] rest token.Minus refl refl

pub lexes_open : (at : ℕ) (rest : List ℕ) → Lexes at (123 ∷ []) rest (on (record { start = at; end = at + 1 }) (token.Open Brace) ∷ [])
unfolding token_at mark_of
lexes_open at rest = lexes_token at 123 [] rest (token.Open Brace) refl refl

pub lexes_close : (at : ℕ) (rest : List ℕ) → Lexes at (125 ∷ []) rest (on (record { start = at; end = at + 1 }) (token.Close Brace) ∷ [])
unfolding token_at mark_of
lexes_close at rest = lexes_token at 125 [] rest (token.Close Brace) refl refl

-- A number.
number_begins : (b : ℕ) → begins_number b ≡ true → (begins_token b ≡ true) × (is_letter b ≡ false)
number_begins b h = (grind (arith, nat_tests, common_steps), grind (arith, nat_tests, common_steps))

pub lexes_number : (at : ℕ) (text rest : List ℕ) (number : Number) → starts begins_number text ≡ true → number_at (text ++ rest) ≡ Some (number, length text)
    → Lexes at text rest (on (record { start = at; end = at + length text }) (number_token number text) ∷ [])
unfolding token_at
lexes_number at [] rest number h found = absurd (false≢true h)
lexes_number at (b ∷ bs) rest number h found =
    let p = number_begins b h in
    let text : take (length (b ∷ bs)) (b ∷ bs ++ rest) ≡ b ∷ bs = take-append_seam (b ∷ bs) rest in
    lexes_token at b bs rest (number_token number (b ∷ bs)) p.0 (rw (p.1, h, found, text) refl)

-- A string.
pub lexes_quote : (at : ℕ) (inner rest bytes : List ℕ) → string_at at (34 ∷ inner ++ rest) ≡ Ok (bytes, at + length (34 ∷ inner))
    → Lexes at (34 ∷ inner) rest (on (record { start = at; end = at + length (34 ∷ inner) }) (token.Quote bytes) ∷ [])
unfolding token_at
lexes_quote at inner rest bytes found = lexes_token at 34 inner rest (token.Quote bytes) refl (rw found refl)
