-- Tokens one by one.
use Rattle.std.proofs.Common.{ℕ, zero, suc, ◌≡◌, zero-add, ◌+◌, ◌-◌, ◌<◌, ◌≤◌, ◌==◌, ◌||◌, List, [], ◌∷◌, length, length-drop, drop, drop-drop, get_or, get_or-drop, not, Bool, true, false, IsTrue, Result, Ok, Err, refl, ap, sym, ◌∙◌, arith}
use Rattle.std.proofs.lemmas.Bool.{false≢true}
use Rattle.std.proofs.lemmas.List.{drop_more}
use Rattle.std.proofs.Math.ListN.{drop_of_length-le}
use Rattle.std.specs.List.{prefix_len}
use Rattle.cy_text.specs.Letters.{is_blank}
use Rattle.cy_text.specs.Fields.{Fields}
use Rattle.cy_text.specs.Form.{Reading, read, after_token, finish, read_text, unread}
use Rattle.cy_msg.specs.Answer.{FailsWith}
use Rattle.cy_text.specs.Fault.{fault_in}
use Rattle.cy_text.specs.Tokens.{IsThere, begins_token, token_at, Tokens, Next, End, Faulty, tokens_from}
use Rattle.cy_text.specs.declared.token.Lexeme.{Lexeme}
use Rattle.cy_text.specs.declared.fault.Fault.{Fault}
use Rattle.cy_text.specs.declared.fault.Failure.{Failure}
use Rattle.cy_text.specs.declared.fault.Failure.TheVariants as failures

-- the bytes of a token or a comment that was read are passed over
pub passed_over : (at passed : ℕ) (bytes : List ℕ) → passed ≤ length bytes → tokens_from at passed bytes ≡ tokens_from (at + passed) 0 (drop passed bytes)
unfolding tokens_from
passed_over at zero [] h = ap End (omega arith)
passed_over at (suc passed) [] h = absurd (omega arith)
passed_over at zero (b ∷ bytes) h = ap (λ (n : ℕ). tokens_from n 0 (b ∷ bytes)) (omega arith)
passed_over at (suc passed) (b ∷ bytes) h =
    let moved : at + 1 + passed ≡ at + suc passed = omega arith in
    passed_over (at + 1) passed bytes (omega arith) ∙ ap (λ (n : ℕ). tokens_from n 0 (drop passed bytes)) moved

-- the first byte, at a place of the text
prefix : (place : ℕ) (bytes : List ℕ) → place < length bytes → drop place bytes ≡ get_or bytes place 0 ∷ drop (place + 1) bytes
prefix place bytes h = drop_more bytes place 0 h

pub blank_prefix : (at b : ℕ) (bytes : List ℕ) → is_blank b ≡ true → tokens_from at 0 (b ∷ bytes) ≡ tokens_from (at + 1) 0 bytes
unfolding tokens_from
blank_prefix at b bytes h = rw h refl

comment_prefix : (at : ℕ) (bytes : List ℕ) → tokens_from at 0 (35 ∷ bytes) ≡ tokens_from (at + 1) (prefix_len (λ byte. not (byte == 10)) bytes) bytes
unfolding tokens_from
comment_prefix at bytes = refl

-- a blank stands for nothing
pub after_blank : (at place : ℕ) (bytes : List ℕ) → place < length bytes → is_blank (get_or bytes place 0) ≡ true
    → tokens_from (at + (place + 1)) 0 (drop (place + 1) bytes) ≡ tokens_from (at + place) 0 (drop place bytes)
after_blank at place bytes there h =
    let moved : at + (place + 1) ≡ at + place + 1 = omega arith in
    rw (moved, prefix place bytes there) (sym (blank_prefix (at + place) (get_or bytes place 0) (drop (place + 1) bytes) h))

-- nor does a comment
pub after_comment : (at place len : ℕ) (bytes : List ℕ) → place < length bytes → get_or bytes place 0 ≡ 35
    → len ≡ prefix_len (λ byte. not (byte == 10)) (drop (place + 1) bytes) → len ≤ length (drop (place + 1) bytes)
    → tokens_from (at + (place + (1 + len))) 0 (drop (place + (1 + len)) bytes) ≡ tokens_from (at + place) 0 (drop place bytes)
after_comment at place len bytes there mark counted fits =
    let moved : at + (place + (1 + len)) ≡ at + place + 1 + len = omega arith in
    let more : place + (1 + len) ≡ place + 1 + len = omega arith in
    ap (λ (n : ℕ). tokens_from n 0 (drop (place + (1 + len)) bytes)) moved
    ∙ ap (tokens_from (at + place + 1 + len) 0) (ap (λ (n : ℕ). drop n bytes) more ∙ sym (drop-drop len (place + 1) bytes))
    ∙ sym (passed_over (at + place + 1) len (drop (place + 1) bytes) fits)
    ∙ ap (λ (n : ℕ). tokens_from (at + place + 1) n (drop (place + 1) bytes)) counted
    ∙ sym (comment_prefix (at + place) (drop (place + 1) bytes))
    ∙ ap (λ (b : ℕ). tokens_from (at + place) 0 (b ∷ drop (place + 1) bytes)) (sym mark)
    ∙ ap (tokens_from (at + place) 0) (sym (prefix place bytes there))

-- What the tokens at a byte are, by the token there.
unfoldable pub with_token : ℕ → List ℕ → Result Lexeme Fault → Tokens
with_token at bytes (Ok found) = Next found (tokens_from (at + 1) (found.span.end - (at + 1)) bytes)
with_token at bytes (Err fault) = Faulty fault

not_either : (x y : Bool) → not (x || y) ≡ true → (x ≡ false) × (y ≡ false)
not_either false false h = (refl, refl)
not_either false true h = absurd (false≢true h)
not_either true y h = absurd (false≢true h)

pub token_prefix : (at b : ℕ) (bytes : List ℕ) → begins_token b ≡ true → tokens_from at 0 (b ∷ bytes) ≡ with_token at bytes (token_at at (b ∷ bytes))
unfolding tokens_from with_token
token_prefix at b bytes h =
    let neither = not_either (is_blank b) (b == 35) h in
    rw (neither.0, neither.1) refl

module _ (r : Reading) (place : ℕ) (text : List ℕ) (whole : Result Fields Fault)
    (reading : read r (tokens_from place 0 (drop place text)) ≡ whole) where
  -- the text ends
  pub at_end : place ≡ length text → whole ≡ finish r place
  unfolding read tokens_from
  at_end h =
      let all : length text ≤ place = omega (arith, h) in
      sym (rw (drop_of_length-le text all) at reading)

  -- the token is faulty
  pub token_fails : (failure : Failure) → place < length text → begins_token (get_or text place 0) ≡ true → FailsWith (fault_in failure) (token_at place (drop place text)) → FailsWith (fault_in failure) whole
  unfolding read with_token
  token_fails failures.Memory there h found = tt
  token_fails (failures.Fault f) there h found =
      let tokens : tokens_from place 0 (drop place text) ≡ with_token place (drop (place + 1) text) (token_at place (drop place text)) =
      rw (prefix place text there) (token_prefix place (get_or text place 0) (drop (place + 1) text) h) in
      sym (rw (tokens, found) at reading)

  module _ (lexeme : Lexeme) (there : place < length text) (h : begins_token (get_or text place 0) ≡ true)
      (found : token_at place (drop place text) ≡ Ok lexeme) (fits : IsThere place (drop place text) lexeme) where
    tokens_next : tokens_from place 0 (drop place text) ≡ Next lexeme (tokens_from lexeme.span.end 0 (drop lexeme.span.end text))
    unfolding with_token
    tokens_next =
        let n = lexeme.span.end - (place + 1) in
        let bound : lexeme.span.end ≤ length text = omega (arith, fits.within, length-drop place text) in
        let short : n ≤ length (drop (place + 1) text) = omega (arith, fits.some, length-drop (place + 1) text) in
        let end : place + 1 + n ≡ lexeme.span.end = omega (arith, fits.some) in
        let tokens : tokens_from place 0 (drop place text) ≡ with_token place (drop (place + 1) text) (token_at place (drop place text)) =
        rw (prefix place text there) (token_prefix place (get_or text place 0) (drop (place + 1) text) h) in
        tokens ∙ rw found (ap (Next lexeme) (
        passed_over (place + 1) n (drop (place + 1) text) short
        ∙ ap (tokens_from (place + 1 + n) 0) (drop-drop n (place + 1) text)
        ∙ ap (λ (m : ℕ). tokens_from m 0 (drop m text)) end))

    pub next_read : read r (Next lexeme (tokens_from lexeme.span.end 0 (drop lexeme.span.end text))) ≡ whole
    next_read = rw tokens_next at reading

    -- the token may not stand there
    pub step_fails : (failure : Failure) → FailsWith (fault_in failure) (after_token r lexeme) → FailsWith (fault_in failure) whole
    unfolding read
    step_fails failures.Memory failed = tt
    step_fails (failures.Fault f) failed = sym (rw failed at next_read)

    -- it may
    pub stepped : (next : Reading) → after_token r lexeme ≡ Ok next → read next (tokens_from lexeme.span.end 0 (drop lexeme.span.end text)) ≡ whole
    unfolding read
    stepped next e = rw e at next_read

-- the blanks in front of the text
pub read_starts : (r : Reading) (place : ℕ) (text : List ℕ) → r ≡ unread → ((at : ℕ) → tokens_from (at + place) 0 (drop place text) ≡ tokens_from at 0 text)
    → read r (tokens_from place 0 (drop place text)) ≡ read_text text
unfolding read_text
read_starts r place text e gap =
    let tokens : tokens_from place 0 (drop place text) ≡ tokens_from 0 0 text = rw (zero-add place) at (gap 0) in
    rw (e, tokens) refl

-- the blanks behind a token
pub gap_passed : (r : Reading) (end len : ℕ) (text : List ℕ) (whole : Result Fields Fault) → read r (tokens_from end 0 (drop end text)) ≡ whole
    → ((at : ℕ) → tokens_from (at + len) 0 (drop len (drop end text)) ≡ tokens_from at 0 (drop end text))
    → read r (tokens_from (end + len) 0 (drop (end + len) text)) ≡ whole
gap_passed r end len text whole reading gap =
    let tokens : tokens_from (end + len) 0 (drop (end + len) text) ≡ tokens_from end 0 (drop end text) =
    ap (tokens_from (end + len) 0) (sym (drop-drop len end text)) ∙ gap end in
    rw tokens reading

pub gap_token : (end len : ℕ) (text : List ℕ) → (len < length (drop end text) → IsTrue (begins_token (get_or (drop end text) len 0)))
    → end + len < length text → IsTrue (begins_token (get_or text (end + len) 0))
gap_token end len text h there =
    let inside : len < length (drop end text) = omega (arith, length-drop end text) in
    rw (get_or-drop end text len 0) at (h inside)
