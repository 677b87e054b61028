-- The tokens of a text stand in their order.
use Rattle.std.proofs.Common.{ℕ, zero, suc, ◌≡◌, ◌+◌, ◌-◌, ◌<◌, ◌≤◌, ◌==◌, ◌||◌, not, List, [], ◌∷◌, ◌++◌, length, length-append, Bool, true, false, cond, Option, Some, None, Result, Ok, Err, refl, ap, ◌∙◌, subst, arith}
use Rattle.std.specs.List.{prefix_len}
use Rattle.std.proofs.lemmas.List.Sums.{prefix_len-le-length}
use Rattle.cy_text.specs.Fields.{Fields}
use Rattle.cy_text.specs.Letters.{is_blank, is_letter, is_word}
use Rattle.cy_text.specs.Strings.{string_from, string_at, escaped, and_then}
use Rattle.cy_text.specs.Tokens.{Tokens, Next, End, IsThere, lexeme, mark_of, marked, numbered, word_at, begins_number, token_at, tokens_from}
use Rattle.cy_text.specs.Grammar.{followed}
use Rattle.cy_text.specs.Places.{fields_of_text}
use Rattle.cy_text.specs.Spans.{AreInOrder}
use Rattle.cy_text.specs.declared.number.Number.{Number}
use Rattle.cy_text.specs.declared.token.Token.{Token}
use Rattle.cy_text.specs.declared.token.Token.TheVariants as token
use Rattle.cy_text.specs.declared.token.Lexeme.{Lexeme}
use Rattle.cy_text.specs.declared.fault.Fault.{Fault}
use Rattle.cy_text.proofs.PieceRuns.{by_cases, some_start}
use Rattle.cy_text.proofs.Numerals.{Reads, form_begins, number_reads}
use Rattle.cy_text.proofs.TokenSteps.{with_token}
use Rattle.cy_text.proofs.FormOnly.{read_form}
use Rattle.cy_text.proofs.Orders.{InRow, lower, fields_order}
use Rattle.cy_text.proofs.CutText.{cut_is_read}

-- A string ends behind its place, and within the bytes.
abbrev StringFits : ℕ → ℕ → Result (List ℕ × ℕ) Fault → Type 0
StringFits at len (Ok found) = (at < found.1) × (found.1 ≤ at + len)
StringFits at len (Err fault) = Unit {0}

string_if : (at len : ℕ) (c : Bool) (o p : Result (List ℕ × ℕ) Fault) → StringFits at len o → StringFits at len p → StringFits at len (cond c o p)
string_if at len true o p h k = h
string_if at len false o p h k = k

string_more : (at len : ℕ) (o : Result (List ℕ × ℕ) Fault) → StringFits (at + 1) len o → StringFits at (suc len) o
string_more at len (Ok found) h = (omega (arith, h.0), omega (arith, h.1))
string_more at len (Err fault) h = tt

string_then : (at len : ℕ) (o : Result (List ℕ × ℕ) Fault) (go : List ℕ × ℕ → Result (List ℕ × ℕ) Fault) → ((found : List ℕ × ℕ) → StringFits at len (go found)) → StringFits at len (and_then o go)
string_then at len (Ok found) go h = h found
string_then at len (Err fault) go h = tt

string_fits : (bytes : List ℕ) (start quote : ℕ) (out : List ℕ) (at passed : ℕ) → StringFits at (length bytes) (string_from start quote out at passed bytes)
unfolding string_from
string_fits [] start quote out at zero = tt
string_fits [] start quote out at (suc passed) = tt
string_fits (b ∷ bytes) start quote out at (suc passed) = string_more at (length bytes) _ (string_fits bytes start quote out (at + 1) passed)
string_fits (b ∷ bytes) start quote out at zero =
    string_if at _ (b == quote) _ _ (omega arith, omega arith) (string_if at _ (b == 10) _ _ tt (string_if at _ (b == 92) _ _
    (string_then at _ (escaped out at bytes) _ (λ found. string_more at (length bytes) _ (string_fits bytes start quote found.0 (at + 1) found.1)))
    (string_more at (length bytes) _ (string_fits bytes start quote (out ++ b ∷ []) (at + 1) 0))))

string_starts : (at : ℕ) (bytes : List ℕ) → StringFits at (length bytes) (string_at at bytes)
unfolding string_at
string_starts at [] = tt
string_starts at (quote ∷ bytes) = string_more at (length bytes) _ (string_fits bytes at quote [] (at + 1) 0)

-- A token stands at the start of the bytes.
abbrev TokenFits : ℕ → List ℕ → Result Lexeme Fault → Type 0
TokenFits at bytes (Ok found) = IsThere at bytes found
TokenFits at bytes (Err fault) = Unit {0}

token_if : (at : ℕ) (bytes : List ℕ) (c : Bool) (o p : Result Lexeme Fault) → TokenFits at bytes o → TokenFits at bytes p → TokenFits at bytes (cond c o p)
token_if at bytes true o p h k = h
token_if at bytes false o p h k = k

word_fits : (at b : ℕ) (bytes : List ℕ) → TokenFits at (b ∷ bytes) (word_at at (b ∷ bytes))
unfolding word_at
word_fits at b bytes = record { start = refl; some = omega arith; within = omega (arith, prefix_len-le-length is_word bytes) }

numbered_fits : (at : ℕ) (bytes : List ℕ) (o : Option (Number × ℕ)) → Reads bytes o → TokenFits at bytes (numbered at bytes o)
numbered_fits at bytes None r = tt
numbered_fits at bytes (Some found) r =
    let some : 0 < length r.piece = some_start begins_number r.piece (form_begins r.before.form) in
    let all : length bytes ≡ length r.piece + length r.rest = ap length r.same ∙ length-append r.piece r.rest in
    record { start = refl; some = omega (arith, r.len_is, some); within = omega (arith, r.len_is, all) }

quoted_fits : (at : ℕ) (bytes : List ℕ) (o : Result (List ℕ × ℕ) Fault) → StringFits at (length bytes) o → TokenFits at bytes (and_then o (λ found. Ok (lexeme (token.Quote found.0) at found.1)))
quoted_fits at bytes (Ok found) h = record { start = refl; some = h.0; within = h.1 }
quoted_fits at bytes (Err fault) h = tt

mark_fits : (at b : ℕ) (bytes : List ℕ) (o : Option Token) → TokenFits at (b ∷ bytes) (marked at o)
mark_fits at b bytes None = tt
mark_fits at b bytes (Some t) = record { start = refl; some = omega arith; within = omega arith }

token_fits : (at b : ℕ) (bytes : List ℕ) → TokenFits at (b ∷ bytes) (token_at at (b ∷ bytes))
unfolding token_at
token_fits at b bytes =
    token_if at _ (is_letter b) _ _ (word_fits at b bytes) (by_cases (TokenFits at (b ∷ bytes)) (begins_number b) _ _ (λ n. numbered_fits at (b ∷ bytes) _ (number_reads b bytes n)) (λ n.
    (token_if at _ (b == 34 || b == 39) _ _ (quoted_fits at (b ∷ bytes) _ (string_starts at (b ∷ bytes))) (mark_fits at b bytes (mark_of b)))))

module _ (end : ℕ) where
  row_behind : (at : ℕ) (bytes : List ℕ) (found : Lexeme) (more : Tokens) (ts : List Lexeme) (b : ℕ) → IsThere at (b ∷ bytes) found
      → ((us : List Lexeme) → more ≡ followed us (End end) → InRow (at + 1 + (found.span.end - (at + 1))) (at + 1 + length bytes) us)
      → Next found more ≡ followed ts (End end) → InRow (at + 0) (at + length (b ∷ bytes)) ts
  row_behind at bytes found more [] b fits rest e = absurd (cc)
  row_behind at bytes found more (t ∷ ts) b fits rest e =
      let same : found ≡ t = cc in
      let others : more ≡ followed ts (End end) = cc in
      let place : at + 1 + (found.span.end - (at + 1)) ≡ found.span.end = omega (arith, fits.some) in
      let high : at + 1 + length bytes ≡ at + length (b ∷ bytes) = omega arith in
      let row : InRow found.span.end (at + length (b ∷ bytes)) ts = rw (place, high) at (rest ts others) in
      subst (λ (u : Lexeme). (at + 0 ≤ u.span.start) × (u.span.start < u.span.end) × InRow u.span.end (at + length (b ∷ bytes)) ts) same
      (omega (arith, fits.start), omega (arith, fits.start, fits.some), row)

  by_cond : {X : Type 0} {P : Type 0} (c : Bool) (x y z : X) → (x ≡ z → P) → (y ≡ z → P) → cond c x y ≡ z → P
  by_cond true x y z f g e = f e
  by_cond false x y z f g e = g e

  token_row : (at b : ℕ) (bytes : List ℕ) (ts : List Lexeme) (o : Result Lexeme Fault) → TokenFits at (b ∷ bytes) o
      → ((passed : ℕ) (us : List Lexeme) → passed ≤ length bytes → tokens_from (at + 1) passed bytes ≡ followed us (End end) → InRow (at + 1 + passed) (at + 1 + length bytes) us)
      → with_token at bytes o ≡ followed ts (End end) → InRow (at + 0) (at + length (b ∷ bytes)) ts
  unfolding with_token
  token_row at b bytes ts (Ok found) fits rest e =
      row_behind at bytes found _ ts b fits (λ us. rest (found.span.end - (at + 1)) us (omega (arith, fits.within, fits.some))) e
  token_row at b bytes [] (Err fault) fits rest e = absurd (cc)
  token_row at b bytes (t ∷ ts) (Err fault) fits rest e = absurd (cc)

  -- what stands behind a byte
  behind_byte : (at low passed : ℕ) (b : ℕ) (bytes : List ℕ) (ts : List Lexeme) → low ≤ passed + 1 → InRow (at + 1 + passed) (at + 1 + length bytes) ts → InRow (at + low) (at + length (b ∷ bytes)) ts
  behind_byte at low passed b bytes ts h row =
      let high : at + 1 + length bytes ≡ at + length (b ∷ bytes) = omega arith in
      lower (at + 1 + passed) (at + low) (at + length (b ∷ bytes)) ts (omega arith) (subst (λ (n : ℕ). InRow (at + 1 + passed) n ts) high row)

  row_of : (bytes : List ℕ) (at passed : ℕ) (ts : List Lexeme) → passed ≤ length bytes → tokens_from at passed bytes ≡ followed ts (End end) → InRow (at + passed) (at + length bytes) ts
  unfolding tokens_from with_token
  row_of [] at passed [] h e = omega arith
  row_of [] at passed (t ∷ ts) h e = absurd (cc)
  row_of (b ∷ bytes) at (suc passed) ts h e = behind_byte at (suc passed) passed b bytes ts (omega arith) (row_of bytes (at + 1) passed ts (omega arith) e)
  row_of (b ∷ bytes) at zero ts h e =
      by_cond (is_blank b) _ _ _ (λ blank. behind_byte at 0 0 b bytes ts (omega arith) (row_of bytes (at + 1) 0 ts (omega arith) blank))
      (λ d. by_cond (b == 35) _ _ _ (λ comment. behind_byte at 0 (prefix_len (λ byte. not (byte == 10)) bytes) b bytes ts (omega arith)
      (row_of bytes (at + 1) (prefix_len (λ byte. not (byte == 10)) bytes) ts (prefix_len-le-length (λ byte. not (byte == 10)) bytes) comment))
      (λ c. token_row at b bytes ts (token_at at (b ∷ bytes)) (token_fits at b bytes) (λ passed us g f. row_of bytes (at + 1) passed us g f) c) d) e

-- The fields that are read stand in their order.
pub in_order : (text : List ℕ) (fields : Fields) → fields_of_text text ≡ Ok fields → AreInOrder 0 (length text) fields
in_order text fields e =
    let p = read_form text fields e in
    let row : InRow (0 + 0) (0 + length text) p.tokens = row_of p.end text 0 0 p.tokens (omega arith) (cut_is_read p.cut) in
    let high : 0 + length text ≡ length text = omega arith in
    fields_order p.form 0 (length text) (rw high at row)
