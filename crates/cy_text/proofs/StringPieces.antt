-- The string that is read, or what is wrong with it.
use Rattle.std.proofs.Common.{ℕ, zero, suc, ◌≡◌, ◌+◌, ◌==◌, ◌||◌, not, List, [], ◌∷◌, ◌++◌, length, length-append, drop, Bool, true, false, Option, Some, None, Ok, Err, refl, ap, sym, ◌∙◌, subst, arith, append_assoc, append-nil}
use Rattle.std.proofs.lemmas.Grind.{common_steps}
use Rattle.std.proofs.lemmas.Bool.{false≢true, eqb-true}
use Rattle.std.proofs.lemmas.Bool.Decides.{nat_tests}
use Rattle.std.proofs.lemmas.Option.{none-some}
use Rattle.std.proofs.Math.Seq.{drop-append_seam}
use Rattle.cy_text.specs.Strings.{escape_at, escape_bytes, escaped, string_from, string_at}
use Rattle.cy_text.specs.Quotations.{IsEscapeBefore, is_plain, IsBody, nothing, plain, escape, is_quote, IsStringBefore, quoted}
use Rattle.cy_text.specs.Cuts.{IsLineEnd, no_more, newline, NoEscape}
use Rattle.cy_text.specs.declared.error.BadKind.TheVariants as kind
use Rattle.cy_text.specs.declared.escape.Escape.{Escape}
use Rattle.cy_text.specs.declared.fault.Fault.TheVariants.{Bad}
use Rattle.cy_text.proofs.PieceRuns.{either_way}
use Rattle.cy_text.proofs.EscapePieces.{escape_before, escape_reads, Reads}
use Rattle.cy_text.proofs.Strings.{passed_over}

record PlainByte (quote b : ℕ) : Type 0 where
  pub no_quote : (b == quote) ≡ false
  pub no_newline : (b == 10) ≡ false
  pub no_backslash : (b == 92) ≡ false

none_of_three : (x y z : Bool) → not (x || y || z) ≡ true → (x ≡ false) × (y ≡ false) × (z ≡ false)
none_of_three false false false h = (refl, refl, refl)
none_of_three false false true h = absurd (false≢true h)
none_of_three false true z h = absurd (false≢true h)
none_of_three true y z h = absurd (false≢true h)

plain_byte : (quote b : ℕ) → is_plain quote b ≡ true → PlainByte quote b
plain_byte quote b h =
    let p = none_of_three (b == quote) (b == 10) (b == 92) h in
    record { no_quote = p.0; no_newline = p.1; no_backslash = p.2 }

quote_other : (quote : ℕ) → is_quote quote ≡ true → ((92 == quote) ≡ false) × ((10 == quote) ≡ false)
quote_other quote h = (grind (arith, nat_tests, common_steps), grind (arith, nat_tests, common_steps))

same_byte : (b : ℕ) → (b == b) ≡ true
same_byte b = grind (arith, nat_tests)

module _ (start quote : ℕ) (is : is_quote quote ≡ true) where
  plain_step : (out : List ℕ) (at b : ℕ) (more : List ℕ) → is_plain quote b ≡ true → string_from start quote out at 0 (b ∷ more) ≡ string_from start quote (out ++ b ∷ []) (at + 1) 0 more
  unfolding string_from
  plain_step out at b more h =
      let p = plain_byte quote b h in
      rw (p.no_quote, p.no_newline, p.no_backslash) refl

  escape_step : (out : List ℕ) (at : ℕ) (piece more : List ℕ) (found : Escape) → escape_at (piece ++ more) ≡ Some (found, length piece)
      → string_from start quote out at 0 (92 ∷ piece ++ more) ≡ string_from start quote (out ++ escape_bytes found) (at + 1 + length piece) 0 more
  unfolding string_from escaped
  escape_step out at piece more found e =
      let q = quote_other quote is in
      let passed : string_from start quote (out ++ escape_bytes found) (at + 1) (length piece) (piece ++ more) ≡ string_from start quote (out ++ escape_bytes found) (at + 1 + length piece) 0 more =
      passed_over start quote (out ++ escape_bytes found) (at + 1) (length piece) (piece ++ more)
      ∙ ap (string_from start quote (out ++ escape_bytes found) (at + 1 + length piece) 0) (drop-append_seam piece more) in
      rw (q.0, e) passed

  wrong_step : (out : List ℕ) (at : ℕ) (more : List ℕ) → escape_at more ≡ None → string_from start quote out at 0 (92 ∷ more) ≡ Err (Bad kind.Escape at)
  unfolding string_from escaped
  wrong_step out at more e =
      let q = quote_other quote is in
      rw (q.0, e) refl

  close_step : (out : List ℕ) (at : ℕ) (more : List ℕ) → string_from start quote out at 0 (quote ∷ more) ≡ Ok (out, at + 1)
  unfolding string_from
  close_step out at more = rw (same_byte quote) refl

  line_step : (out : List ℕ) (at : ℕ) {behind : List ℕ} → IsLineEnd behind → string_from start quote out at 0 behind ≡ Err (Bad kind.Quote start)
  unfolding string_from
  line_step out at no_more = refl
  line_step out at newline = let q = quote_other quote is in rw (q.1) refl

  body_before : {behind body says : List ℕ} (out : List ℕ) (at : ℕ) → IsBody quote behind body says
      → string_from start quote out at 0 (body ++ behind) ≡ string_from start quote (out ++ says) (at + length body) 0 behind
  body_before {behind = behind} out at nothing =
      let here : at + 0 ≡ at = omega arith in
      ap (λ (xs : List ℕ). string_from start quote xs at 0 behind) (sym (append-nil out)) ∙ ap (λ (n : ℕ). string_from start quote (out ++ []) n 0 behind) (sym here)
  body_before {behind = behind} out at (plain {b = b} {body = body} {says = says} h more) =
      let there : at + 1 + length body ≡ at + length (b ∷ body) = omega arith in
      plain_step out at b (body ++ behind) h ∙ body_before (out ++ b ∷ []) (at + 1) more
      ∙ ap (λ (xs : List ℕ). string_from start quote xs (at + 1 + length body) 0 behind) (append_assoc out (b ∷ []) says)
      ∙ ap (λ (n : ℕ). string_from start quote (out ++ b ∷ says) n 0 behind) there
  body_before {behind = behind} out at (escape {piece = piece} {body = body} {says = says} {found = found} before more) =
      let there : at + 1 + length piece + length body ≡ at + length (92 ∷ piece ++ body) = omega (arith, length-append piece body) in
      ap (λ (xs : List ℕ). string_from start quote out at 0 (92 ∷ xs)) (append_assoc piece body behind)
      ∙ escape_step out at piece (body ++ behind) found (escape_before (body ++ behind) before)
      ∙ body_before (out ++ escape_bytes found) (at + 1 + length piece) more
      ∙ ap (λ (xs : List ℕ). string_from start quote xs (at + 1 + length piece + length body) 0 behind) (append_assoc out (escape_bytes found) says)
      ∙ ap (λ (n : ℕ). string_from start quote (out ++ (escape_bytes found ++ says)) n 0 behind) there

begins_string : (start quote : ℕ) (bytes : List ℕ) → string_at start (quote ∷ bytes) ≡ string_from start quote [] (start + 1) 0 bytes
unfolding string_at
begins_string start quote bytes = refl

-- A string before a rest is read.
pub string_before : {piece says : List ℕ} (start : ℕ) (rest : List ℕ) → IsStringBefore rest piece says → string_at start (piece ++ rest) ≡ Ok (says, start + length piece)
string_before start rest (quoted {quote = q} {body = body} {says = says} is form) =
    let there : start + 1 + length body + 1 ≡ start + length (q ∷ body ++ q ∷ []) = omega (arith, length-append body (q ∷ [])) in
    begins_string start q ((body ++ q ∷ []) ++ rest) ∙ ap (string_from start q [] (start + 1) 0) (append_assoc body (q ∷ []) rest)
    ∙ body_before start q is [] (start + 1) form ∙ close_step start q is says (start + 1 + length body) rest ∙ ap (λ (n : ℕ). Ok (says, n)) there

-- A string that isn't closed.
pub open_string : (start quote : ℕ) {body behind says : List ℕ} → is_quote quote ≡ true → IsBody quote behind body says → IsLineEnd behind
    → string_at start (quote ∷ body ++ behind) ≡ Err (Bad kind.Quote start)
open_string start quote {body = body} {behind = behind} {says = says} is form end =
    begins_string start quote (body ++ behind) ∙ body_before start quote is [] (start + 1) form ∙ line_step start quote is says (start + 1 + length body) end

-- One with a wrong escape.
no_escape_read : (behind : List ℕ) (o : Option (Escape × ℕ)) → escape_at behind ≡ o → Reads behind o → NoEscape behind → o ≡ None
no_escape_read behind None e r none = refl
no_escape_read behind (Some found) e r none = absurd (none r.piece r.rest found.0 r.same r.before)

pub wrong_escape : (start quote : ℕ) {body behind says : List ℕ} → is_quote quote ≡ true → IsBody quote (92 ∷ behind) body says → NoEscape behind
    → string_at start (quote ∷ body ++ 92 ∷ behind) ≡ Err (Bad kind.Escape (start + 1 + length body))
wrong_escape start quote {body = body} {behind = behind} {says = says} is form none =
    begins_string start quote (body ++ 92 ∷ behind) ∙ body_before start quote is [] (start + 1) form
    ∙ wrong_step start quote is says (start + 1 + length body) behind (no_escape_read behind (escape_at behind) refl (escape_reads behind) none)

-- What ends the inside of a string.
pub data Ends (quote : ℕ) : List ℕ → Type 0 where
  closed : (rest : List ℕ) → Ends quote (quote ∷ rest)
  open_line : {behind : List ℕ} → IsLineEnd behind → Ends quote behind
  wrong : {behind : List ℕ} → NoEscape behind → Ends quote (92 ∷ behind)

pub record BodyOf (quote : ℕ) (bytes : List ℕ) : Type 0 where
  pub body : List ℕ
  pub behind : List ℕ
  pub says : List ℕ
  pub same : bytes ≡ body ++ behind
  pub form : IsBody quote behind body says
  pub end : Ends quote behind

module _ (quote : ℕ) where
  ends_here : (bytes : List ℕ) → Ends quote bytes → BodyOf quote bytes
  ends_here bytes end = record { body = []; behind = bytes; says = []; same = refl; form = nothing; end = end }

  plain_more : (b : ℕ) (bytes : List ℕ) → is_plain quote b ≡ true → BodyOf quote bytes → BodyOf quote (b ∷ bytes)
  plain_more b bytes h more =
      record { body = b ∷ more.body; behind = more.behind; says = b ∷ more.says; same = ap (λ (xs : List ℕ). b ∷ xs) more.same; form = plain h more.form; end = more.end }

  escape_more : (bytes piece rest : List ℕ) (found : Escape) → bytes ≡ piece ++ rest → IsEscapeBefore rest piece found → BodyOf quote rest → BodyOf quote (92 ∷ bytes)
  escape_more bytes piece rest found same before more =
      record {
        body = 92 ∷ piece ++ more.body;
        behind = more.behind;
        says = escape_bytes found ++ more.says;
        same = ap (λ (xs : List ℕ). 92 ∷ xs) (same ∙ ap (λ (xs : List ℕ). piece ++ xs) more.same ∙ sym (append_assoc piece more.body more.behind));
        form = escape (subst (λ (xs : List ℕ). IsEscapeBefore xs piece found) more.same before) more.form;
        end = more.end;
      }

  none_read : (bytes : List ℕ) → escape_at bytes ≡ None → NoEscape bytes
  none_read bytes e piece rest found same before =
      none-some (found, length piece) (sym e ∙ ap escape_at same ∙ escape_before rest before)

  by_escape : (bytes : List ℕ) (o : Option (Escape × ℕ)) → escape_at bytes ≡ o → Reads bytes o → ((passed : ℕ) → BodyOf quote (drop passed bytes)) → BodyOf quote (92 ∷ bytes)
  by_escape bytes None e r more = ends_here (92 ∷ bytes) (wrong (none_read bytes e))
  by_escape bytes (Some found) e r more =
      let rest : drop found.1 bytes ≡ r.rest = ap (λ (n : ℕ). drop n bytes) r.len_is ∙ ap (drop (length r.piece)) r.same ∙ drop-append_seam r.piece r.rest in
      escape_more bytes r.piece r.rest found.0 r.same r.before (subst (BodyOf quote) rest (more found.1))

  is_plain_byte : (b : ℕ) → (b == quote) ≡ false → (b == 10) ≡ false → (b == 92) ≡ false → is_plain quote b ≡ true
  is_plain_byte b q n s = rw (q, n, s) refl

  body_of : (bytes : List ℕ) (passed : ℕ) → BodyOf quote (drop passed bytes)
  body_of [] zero = ends_here [] (open_line no_more)
  body_of [] (suc passed) = ends_here [] (open_line no_more)
  body_of (b ∷ bytes) (suc passed) = body_of bytes passed
  body_of (b ∷ bytes) zero = either_way (b == quote)
      (λ q. subst (λ (n : ℕ). BodyOf quote (n ∷ bytes)) (sym (eqb-true b quote q)) (ends_here (quote ∷ bytes) (closed bytes)))
      (λ q. either_way (b == 10)
      (λ n. subst (λ (n : ℕ). BodyOf quote (n ∷ bytes)) (sym (eqb-true b 10 n)) (ends_here (10 ∷ bytes) (open_line newline)))
      (λ n. either_way (b == 92)
      (λ s. subst (λ (n : ℕ). BodyOf quote (n ∷ bytes)) (sym (eqb-true b 92 s)) (by_escape bytes (escape_at bytes) refl (escape_reads bytes) (body_of bytes)))
      (λ s. plain_more b bytes (is_plain_byte b q n s) (body_of bytes 0))))

  pub whole_body : (bytes : List ℕ) → BodyOf quote bytes
  whole_body bytes = body_of bytes 0
