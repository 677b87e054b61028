-- The tokens that are read are the cut of the text.
use Rattle.std.proofs.Common.{ℕ, zero, suc, ◌≡◌, ◌+◌, ◌<◌, ◌==◌, ◌||◌, ◌&&◌, not, List, [], ◌∷◌, ◌++◌, length, length-append, take, drop, Bool, true, false, cond, Option, Some, None, Result, Ok, Err, ◌⊎◌, inl, inr, refl, ap, sym, ◌∙◌, subst, arith, append_assoc}
use Rattle.std.proofs.lemmas.Grind.{common_steps}
use Rattle.std.proofs.lemmas.Bool.{false≢true, eqb-true}
use Rattle.std.proofs.lemmas.Bool.Decides.{nat_tests}
use Rattle.std.proofs.lemmas.Option.{none-some}
use Rattle.std.proofs.Math.Seq.{drop-append_seam, take-append_seam}
use Rattle.std.specs.List.{prefix_len}
use Rattle.cy_text.specs.Letters.{is_blank, is_letter, is_word, starts}
use Rattle.cy_text.specs.Numbers.{number_at}
use Rattle.cy_text.specs.Strings.{string_at}
use Rattle.cy_text.specs.Pieces.{AreAll, IsWord, letters, IsNumberBefore}
use Rattle.cy_text.specs.Quotations.{IsBody, is_quote, IsStringBefore, quoted}
use Rattle.cy_text.specs.Cuts.{IsTokenBefore, mark, word, number, string, IsLineEnd, no_more, newline, NoNumber, begins_none, IsFaultAt, no_token, no_number, no_quote, no_escape, IsCut, ended, blank, comment, token, faulty}
use Rattle.cy_text.specs.Tokens.{Tokens, Next, End, Faulty, lexeme, mark_of, word_at, number_token, begins_number, begins_token, token_at, tokens_from, tokens_of}
use Rattle.cy_text.specs.declared.number.Number.{Number}
use Rattle.cy_text.specs.declared.token.Token.{Token}
use Rattle.cy_text.specs.declared.token.Token.TheVariants.{Word, Quote}
use Rattle.cy_text.specs.declared.token.Lexeme.{Lexeme}
use Rattle.cy_text.specs.declared.error.BadKind.TheVariants as kind
use Rattle.cy_text.specs.declared.fault.Fault.{Fault}
use Rattle.cy_text.specs.declared.fault.Fault.TheVariants.{Bad}
use Rattle.cy_text.proofs.TokenSteps.{passed_over, with_token, token_prefix, blank_prefix}
use Rattle.cy_text.proofs.Lexed.{lexes_token}
use Rattle.cy_text.proofs.PieceRuns.{some_start, either_way, run_before, run_of}
use Rattle.cy_text.proofs.Numerals.{form_begins, number_before, number_reads, Reads}
use Rattle.cy_text.proofs.StringPieces.{string_before, open_string, wrong_escape, Ends, closed, open_line, wrong, whole_body}

-- What a byte begins.
record MarkByte (b : ℕ) : Type 0 where
  pub begins : begins_token b ≡ true
  pub no_letter : is_letter b ≡ false
  pub no_number_byte : begins_number b ≡ false
  pub no_quote_byte : is_quote b ≡ false

by_mark : (b c : ℕ) (o rest : Option Token) (t : Token) → MarkByte c → (rest ≡ Some t → MarkByte b) → cond (b == c) o rest ≡ Some t → MarkByte b
by_mark b c o rest t p f h = chosen_mark (b == c) refl h
  where
    chosen_mark : (test : Bool) → (b == c) ≡ test → cond test o rest ≡ Some t → MarkByte b
    chosen_mark true e k = subst MarkByte (sym (eqb-true b c e)) p
    chosen_mark false e k = f k

mark_byte : (b : ℕ) (t : Token) → mark_of b ≡ Some t → MarkByte b
unfolding mark_of
mark_byte b t h =
    by_mark b 123 _ _ t (record { begins = refl; no_letter = refl; no_number_byte = refl; no_quote_byte = refl }) (
    by_mark b 125 _ _ t (record { begins = refl; no_letter = refl; no_number_byte = refl; no_quote_byte = refl }) (
    by_mark b 60 _ _ t (record { begins = refl; no_letter = refl; no_number_byte = refl; no_quote_byte = refl }) (
    by_mark b 62 _ _ t (record { begins = refl; no_letter = refl; no_number_byte = refl; no_quote_byte = refl }) (
    by_mark b 91 _ _ t (record { begins = refl; no_letter = refl; no_number_byte = refl; no_quote_byte = refl }) (
    by_mark b 93 _ _ t (record { begins = refl; no_letter = refl; no_number_byte = refl; no_quote_byte = refl }) (
    by_mark b 58 _ _ t (record { begins = refl; no_letter = refl; no_number_byte = refl; no_quote_byte = refl }) (
    by_mark b 44 _ _ t (record { begins = refl; no_letter = refl; no_number_byte = refl; no_quote_byte = refl }) (
    by_mark b 59 _ _ t (record { begins = refl; no_letter = refl; no_number_byte = refl; no_quote_byte = refl }) (
    by_mark b 45 _ _ t (record { begins = refl; no_letter = refl; no_number_byte = refl; no_quote_byte = refl }) (
    λ none. absurd (none-some t none)))))))))))
    h

letter_begins : (b : ℕ) → is_letter b ≡ true → begins_token b ≡ true
letter_begins b h = grind (arith, nat_tests, common_steps)

number_begins : (b : ℕ) → begins_number b ≡ true → (begins_token b ≡ true) × (is_letter b ≡ false)
number_begins b h = (grind (arith, nat_tests, common_steps), grind (arith, nat_tests, common_steps))

record QuoteByte (b : ℕ) : Type 0 where
  pub begins : begins_token b ≡ true
  pub no_letter : is_letter b ≡ false
  pub no_number_byte : begins_number b ≡ false

quote_begins : (b : ℕ) → is_quote b ≡ true → QuoteByte b
quote_begins b h =
    record { begins = grind (arith, nat_tests, common_steps); no_letter = grind (arith, nat_tests, common_steps); no_number_byte = grind (arith, nat_tests, common_steps) }

-- A token before a rest is read.
module _ (at : ℕ) where
  mark_read : (b : ℕ) (t : Token) (rest : List ℕ) → mark_of b ≡ Some t → MarkByte b → token_at at (b ∷ rest) ≡ Ok (lexeme t at (at + 1))
  unfolding token_at
  mark_read b t rest e p = rw (p.no_letter, p.no_number_byte, p.no_quote_byte, e) refl

  word_read : (b : ℕ) (bytes rest : List ℕ) → is_letter b ≡ true → AreAll is_word bytes → starts is_word rest ≡ false
      → token_at at (b ∷ bytes ++ rest) ≡ Ok (lexeme (Word (b ∷ bytes)) at (at + length (b ∷ bytes)))
  unfolding token_at word_at
  word_read b bytes rest letter all stops =
      let n : prefix_len is_word (bytes ++ rest) ≡ length bytes = run_before is_word bytes rest all stops in
      let len : 1 + length bytes ≡ length (b ∷ bytes) = omega arith in
      let front : take (length (b ∷ bytes)) (b ∷ bytes ++ rest) ≡ b ∷ bytes = take-append_seam (b ∷ bytes) rest in
      rw (letter, n, len, front) refl

  number_read : (b : ℕ) (bytes rest : List ℕ) (n : Number) → begins_number b ≡ true → number_at (b ∷ bytes ++ rest) ≡ Some (n, length (b ∷ bytes))
      → token_at at (b ∷ bytes ++ rest) ≡ Ok (lexeme (number_token n (b ∷ bytes)) at (at + length (b ∷ bytes)))
  unfolding token_at
  number_read b bytes rest n h found =
      let front : take (length (b ∷ bytes)) (b ∷ bytes ++ rest) ≡ b ∷ bytes = take-append_seam (b ∷ bytes) rest in
      rw ((number_begins b h).1, h, found, front) refl

  bad_number : (b : ℕ) (bytes : List ℕ) → begins_number b ≡ true → number_at (b ∷ bytes) ≡ None → token_at at (b ∷ bytes) ≡ Err (Bad kind.Number at)
  unfolding token_at
  bad_number b bytes h none = rw ((number_begins b h).1, h, none) refl

  string_read : (q : ℕ) (bytes says : List ℕ) (end : ℕ) → is_quote q ≡ true → string_at at (q ∷ bytes) ≡ Ok (says, end) → token_at at (q ∷ bytes) ≡ Ok (lexeme (Quote says) at end)
  unfolding token_at
  string_read q bytes says end is found =
      let p = quote_begins q is in
      rw (p.no_letter, p.no_number_byte, is, found) refl

  bad_string : (q : ℕ) (bytes : List ℕ) (fault : Fault) → is_quote q ≡ true → string_at at (q ∷ bytes) ≡ Err fault → token_at at (q ∷ bytes) ≡ Err fault
  unfolding token_at
  bad_string q bytes fault is found =
      let p = quote_begins q is in
      rw (p.no_letter, p.no_number_byte, is, found) refl

  bad_byte : (b : ℕ) (bytes : List ℕ) → is_letter b ≡ false → begins_number b ≡ false → is_quote b ≡ false → mark_of b ≡ None → token_at at (b ∷ bytes) ≡ Err (Bad kind.Token at)
  unfolding token_at
  bad_byte b bytes letter n quote none = rw (letter, n, quote, none) refl

-- What is read of bytes that begin with a byte of a token.
record IsReadTo (at : ℕ) (bytes : List ℕ) (result : Result Lexeme Fault) : Type 0 where
  pub begins : starts begins_token bytes ≡ true
  pub reads : token_at at bytes ≡ result

number_token_read : (at : ℕ) (piece rest : List ℕ) (n : Number) → IsNumberBefore rest piece n → starts begins_number piece ≡ true
    → IsReadTo at (piece ++ rest) (Ok (lexeme (number_token n piece) at (at + length piece)))
number_token_read at [] rest n before h = absurd (false≢true h)
number_token_read at (b ∷ bytes) rest n before h = record { begins = (number_begins b h).0; reads = number_read at b bytes rest n h (number_before rest before) }

string_token_read : (at : ℕ) {piece says : List ℕ} (rest : List ℕ) → IsStringBefore rest piece says → IsReadTo at (piece ++ rest) (Ok (lexeme (Quote says) at (at + length piece)))
string_token_read at rest (quoted {quote = q} {body = body} {says = says} is form) =
    record { begins = (quote_begins q is).begins; reads = string_read at q ((body ++ q ∷ []) ++ rest) says (at + length (q ∷ body ++ q ∷ [])) is (string_before at rest (quoted is form)) }

word_token_read : (at : ℕ) {piece : List ℕ} (rest : List ℕ) → IsWord piece → starts is_word rest ≡ false → IsReadTo at (piece ++ rest) (Ok (lexeme (Word piece) at (at + length piece)))
word_token_read at rest (letters {b = b} {bytes = bytes} letter all) stops = record { begins = letter_begins b letter; reads = word_read at b bytes rest letter all stops }

token_read : (at : ℕ) {piece : List ℕ} {t : Token} (rest : List ℕ) → IsTokenBefore rest piece t → IsReadTo at (piece ++ rest) (Ok (lexeme t at (at + length piece)))
token_read at rest (mark {b = b} {found = t} e) = let p = mark_byte b t e in record { begins = p.begins; reads = mark_read at b t rest e p }
token_read at rest (word w stops) = word_token_read at rest w stops
token_read at rest (number {piece = piece} {found = n} before) = number_token_read at piece rest n before (form_begins before.form)
token_read at rest (string s) = string_token_read at rest s

-- So is its fault.
none_before : (b : ℕ) (bytes : List ℕ) (o : Option (Number × ℕ)) → number_at (b ∷ bytes) ≡ o → Reads (b ∷ bytes) o → NoNumber (b ∷ bytes) → o ≡ None
none_before b bytes None e r lacks = refl
none_before b bytes (Some found) e r lacks = absurd (lacks r.piece r.rest found.0 r.same r.before)

both_true : (x y : Bool) → (x && y) ≡ true → (x ≡ true) × (y ≡ true)
both_true true y h = (refl, h)
both_true false y h = absurd (false≢true h)

none_true : (x y z : Bool) → not (x || y || z) ≡ true → (x ≡ false) × (y ≡ false) × (z ≡ false)
none_true false false false h = (refl, refl, refl)
none_true false false true h = absurd (false≢true h)
none_true false true z h = absurd (false≢true h)
none_true true y z h = absurd (false≢true h)

bad_byte_read : (at b : ℕ) (bytes : List ℕ) → begins_none b ≡ true → mark_of b ≡ None → IsReadTo at (b ∷ bytes) (Err (Bad kind.Token at))
bad_byte_read at b bytes h none =
    let p = both_true (begins_token b) _ h in
    let q = none_true (is_letter b) (begins_number b) (is_quote b) p.1 in
    record { begins = p.0; reads = bad_byte at b bytes q.0 q.1 q.2 none }

fault_read : (at : ℕ) {bytes : List ℕ} {fault : Fault} → IsFaultAt at bytes fault → IsReadTo at bytes (Err fault)
fault_read at (no_token {b = b} {bytes = bytes} h none) = bad_byte_read at b bytes h none
fault_read at (no_number {b = b} {bytes = bytes} h lacks) =
    record { begins = (number_begins b h).0; reads = bad_number at b bytes h (none_before b bytes (number_at (b ∷ bytes)) refl (number_reads b bytes h) lacks) }
fault_read at (no_quote {quote = q} {body = body} {behind = behind} is form end) =
    record { begins = (quote_begins q is).begins; reads = bad_string at q (body ++ behind) (Bad kind.Quote at) is (open_string at q is form end) }
fault_read at (no_escape {quote = q} {body = body} {behind = behind} is form lacks) =
    record { begins = (quote_begins q is).begins; reads = bad_string at q (body ++ 92 ∷ behind) (Bad kind.Escape (at + 1 + length body)) is (wrong_escape at q is form lacks) }

-- A byte of a token begins a token or a fault.
record TokenOf (bytes : List ℕ) : Type 0 where
  pub piece : List ℕ
  pub rest : List ℕ
  pub found : Token
  pub same : bytes ≡ piece ++ rest
  pub before : IsTokenBefore rest piece found

abbrev TokenOrFault : ℕ → List ℕ → Type 0
TokenOrFault at bytes = TokenOf bytes ⊎ ((fault : Fault) × IsFaultAt at bytes fault)

module _ (at : ℕ) where
  word_there : (b : ℕ) (bytes : List ℕ) → is_letter b ≡ true → TokenOrFault at (b ∷ bytes)
  word_there b bytes h =
      let r = run_of is_word bytes in
      inl (record { piece = b ∷ r.front; rest = r.rest; found = Word (b ∷ r.front); same = ap (λ (xs : List ℕ). b ∷ xs) r.same; before = word (letters h r.all) r.stops })

  none_there : (b : ℕ) (bytes : List ℕ) → number_at (b ∷ bytes) ≡ None → NoNumber (b ∷ bytes)
  none_there b bytes e piece rest n same before = none-some (n, length piece) (sym e ∙ ap number_at same ∙ number_before rest before)

  number_there : (b : ℕ) (bytes : List ℕ) (o : Option (Number × ℕ)) → begins_number b ≡ true → number_at (b ∷ bytes) ≡ o → Reads (b ∷ bytes) o → TokenOrFault at (b ∷ bytes)
  number_there b bytes None h e r = inr (Bad kind.Number at, no_number h (none_there b bytes e))
  number_there b bytes (Some found) h e r =
      inl (record { piece = r.piece; rest = r.rest; found = number_token found.0 r.piece; same = r.same; before = number r.before })

  string_there : (q : ℕ) (bytes body says : List ℕ) {behind : List ℕ} → Ends q behind → is_quote q ≡ true → bytes ≡ body ++ behind → IsBody q behind body says → TokenOrFault at (q ∷ bytes)
  string_there q bytes body says (closed rest) is same form =
      inl (record {
        piece = q ∷ body ++ q ∷ [];
        rest = rest;
        found = Quote says;
        same = ap (λ (xs : List ℕ). q ∷ xs) (same ∙ sym (append_assoc body (q ∷ []) rest));
        before = string (quoted is form);
      })
  string_there q bytes body says (open_line {behind = behind} end) is same form =
      inr (Bad kind.Quote at, subst (λ (xs : List ℕ). IsFaultAt at (q ∷ xs) (Bad kind.Quote at)) (sym same) (no_quote is form end))
  string_there q bytes body says (wrong {behind = behind} lacks) is same form =
      inr (Bad kind.Escape (at + 1 + length body), subst (λ (xs : List ℕ). IsFaultAt at (q ∷ xs) (Bad kind.Escape (at + 1 + length body))) (sym same) (no_escape is form lacks))

  begins_no_other : (b : ℕ) → begins_token b ≡ true → is_letter b ≡ false → begins_number b ≡ false → is_quote b ≡ false → begins_none b ≡ true
  begins_no_other b h l n q = rw (h, l, n, q) refl

  mark_there : (b : ℕ) (bytes : List ℕ) (o : Option Token) → begins_none b ≡ true → mark_of b ≡ o → TokenOrFault at (b ∷ bytes)
  mark_there b bytes None h e = inr (Bad kind.Token at, no_token h e)
  mark_there b bytes (Some t) h e = inl (record { piece = b ∷ []; rest = bytes; found = t; same = refl; before = mark e })

  token_there : (b : ℕ) (bytes : List ℕ) → begins_token b ≡ true → TokenOrFault at (b ∷ bytes)
  token_there b bytes h =
      either_way (is_letter b) (word_there b bytes) (λ l.
      either_way (begins_number b) (λ n. number_there b bytes (number_at (b ∷ bytes)) n refl (number_reads b bytes n)) (λ n.
      either_way (is_quote b) (λ q. let body = whole_body b bytes in string_there b bytes body.body body.says body.end q body.same body.form) (λ q.
      mark_there b bytes (mark_of b) (begins_no_other b h l n q) refl)))

-- A cut is what is read.
line_stops : {bytes : List ℕ} → IsLineEnd bytes → starts (λ b. not (b == 10)) bytes ≡ false
line_stops no_more = refl
line_stops newline = refl

comment_cut : (at : ℕ) (line bytes : List ℕ) → AreAll (λ b. not (b == 10)) line → starts (λ b. not (b == 10)) bytes ≡ false
    → tokens_from at 0 (35 ∷ line ++ bytes) ≡ tokens_from (at + 1 + length line) 0 bytes
unfolding tokens_from
comment_cut at line bytes all stops =
    let n : prefix_len (λ b. not (b == 10)) (line ++ bytes) ≡ length line = run_before (λ b. not (b == 10)) line bytes all stops in
    ap (λ (k : ℕ). tokens_from (at + 1) k (line ++ bytes)) n ∙ passed_over (at + 1) (length line) (line ++ bytes) (omega (arith, length-append line bytes))
    ∙ ap (tokens_from (at + 1 + length line) 0) (drop-append_seam line bytes)

token_cut : (at : ℕ) (piece rest : List ℕ) (t : Token) → IsReadTo at (piece ++ rest) (Ok (lexeme t at (at + length piece))) → 0 < length piece
    → tokens_from at 0 (piece ++ rest) ≡ Next (lexeme t at (at + length piece)) (tokens_from (at + length piece) 0 rest)
token_cut at [] rest t r some = absurd (omega (arith, some))
token_cut at (b ∷ bytes) rest t r some = lexes_token at b bytes rest t r.begins r.reads

fault_cut : (at : ℕ) (bytes : List ℕ) (fault : Fault) → IsReadTo at bytes (Err fault) → tokens_from at 0 bytes ≡ Faulty fault
unfolding with_token
fault_cut at [] fault r = absurd (false≢true r.begins)
fault_cut at (b ∷ bytes) fault r = token_prefix at b bytes r.begins ∙ rw (r.reads) refl

word_some : {piece : List ℕ} → IsWord piece → 0 < length piece
word_some (letters letter all) = omega arith

string_some : {rest piece says : List ℕ} → IsStringBefore rest piece says → 0 < length piece
string_some (quoted is form) = omega arith

token_some : {rest piece : List ℕ} {t : Token} → IsTokenBefore rest piece t → 0 < length piece
token_some (mark e) = omega arith
token_some (word w stops) = word_some w
token_some (number {piece = piece} before) = some_start begins_number piece (form_begins before.form)
token_some (string s) = string_some s

ended_is : (at : ℕ) → tokens_from at 0 [] ≡ End at
unfolding tokens_from
ended_is at = refl

pub cut_is_read : {at : ℕ} {text : List ℕ} {tokens : Tokens} → IsCut at text tokens → tokens_from at 0 text ≡ tokens
cut_is_read (ended {at = at}) = ended_is at
cut_is_read (blank {at = at} {b = b} {bytes = bytes} h more) = blank_prefix at b bytes h ∙ cut_is_read more
cut_is_read (comment {at = at} {bytes = bytes} line all end more) = comment_cut at line bytes all (line_stops end) ∙ cut_is_read more
cut_is_read (token {at = at} {piece = piece} {rest = rest} {found = t} before more) =
    token_cut at piece rest t (token_read at rest before) (token_some before) ∙ ap (Next (lexeme t at (at + length piece))) (cut_is_read more)
cut_is_read (faulty {at = at} {bytes = bytes} {fault = fault} h) = fault_cut at bytes fault (fault_read at h)

-- What is read is a cut.
abbrev Cuts : ℕ → List ℕ → Type 0
Cuts at bytes = IsCut at bytes (tokens_from at 0 bytes)

not_false : (x : Bool) → not x ≡ false → x ≡ true
not_false true h = refl
not_false false h = absurd (false≢true (sym h))

line_end : (bytes : List ℕ) → starts (λ b. not (b == 10)) bytes ≡ false → IsLineEnd bytes
line_end [] h = no_more
line_end (b ∷ bytes) h = subst (λ (n : ℕ). IsLineEnd (n ∷ bytes)) (sym (eqb-true b 10 (not_false (b == 10) h))) newline

module _ (at b : ℕ) (bytes : List ℕ) (behind : (passed n : ℕ) → Cuts n (drop passed bytes)) where
  blank_cuts : is_blank b ≡ true → Cuts at (b ∷ bytes)
  blank_cuts h = subst (IsCut at (b ∷ bytes)) (sym (blank_prefix at b bytes h)) (blank h (behind 0 (at + 1)))

  comment_cuts : b ≡ 35 → Cuts at (b ∷ bytes)
  comment_cuts e =
      let r = run_of (λ c. not (c == 10)) bytes in
      let rest : drop (length r.front) bytes ≡ r.rest = ap (drop (length r.front)) r.same ∙ drop-append_seam r.front r.rest in
      let more = subst (Cuts (at + 1 + length r.front)) rest (behind (length r.front) (at + 1 + length r.front)) in
      let here : Cuts at (35 ∷ r.front ++ r.rest) =
      subst (IsCut at (35 ∷ r.front ++ r.rest)) (sym (comment_cut at r.front r.rest r.all r.stops)) (comment r.front r.all (line_end r.rest r.stops) more) in
      subst (λ (n : ℕ). Cuts at (n ∷ bytes)) (sym e) (subst (λ (xs : List ℕ). Cuts at (35 ∷ xs)) (sym r.same) here)

  rest_of : (piece rest : List ℕ) → b ∷ bytes ≡ piece ++ rest → 0 < length piece → (n : ℕ) → Cuts n rest
  rest_of [] rest same some n = absurd (omega (arith, some))
  rest_of (c ∷ piece) rest same some n =
      let there : drop (length piece) bytes ≡ rest = ap (drop (length (c ∷ piece))) same ∙ drop-append_seam (c ∷ piece) rest in
      subst (Cuts n) there (behind (length piece) n)

  token_cuts : TokenOf (b ∷ bytes) → Cuts at (b ∷ bytes)
  token_cuts t =
      let some = token_some t.before in
      let more = rest_of t.piece t.rest t.same some (at + length t.piece) in
      subst (Cuts at) (sym t.same)
      (subst (IsCut at (t.piece ++ t.rest)) (sym (token_cut at t.piece t.rest t.found (token_read at t.rest t.before) some)) (token t.before more))

  fault_cuts : (fault : Fault) → IsFaultAt at (b ∷ bytes) fault → Cuts at (b ∷ bytes)
  fault_cuts fault h = subst (IsCut at (b ∷ bytes)) (sym (fault_cut at (b ∷ bytes) fault (fault_read at h))) (faulty h)

  either_cuts : TokenOrFault at (b ∷ bytes) → Cuts at (b ∷ bytes)
  either_cuts (inl t) = token_cuts t
  either_cuts (inr f) = fault_cuts f.0 f.1

  begins_by : is_blank b ≡ false → (b == 35) ≡ false → begins_token b ≡ true
  begins_by h e = rw (h, e) refl

  byte_cuts : Cuts at (b ∷ bytes)
  byte_cuts = either_way (is_blank b) blank_cuts (λ h. either_way (b == 35) (λ e. comment_cuts (eqb-true b 35 e)) (λ e. either_cuts (token_there at b bytes (begins_by h e))))

nothing_cuts : (at : ℕ) → Cuts at []
nothing_cuts at = subst (IsCut at []) (sym (ended_is at)) ended

cuts_behind : (bytes : List ℕ) (passed at : ℕ) → Cuts at (drop passed bytes)
cuts_behind [] zero at = nothing_cuts at
cuts_behind [] (suc passed) at = nothing_cuts at
cuts_behind (b ∷ bytes) (suc passed) at = cuts_behind bytes passed at
cuts_behind (b ∷ bytes) zero at = byte_cuts at b bytes (cuts_behind bytes)

pub read_is_cut : (text : List ℕ) → IsCut 0 text (tokens_of text)
read_is_cut text = cuts_behind text 0 0
