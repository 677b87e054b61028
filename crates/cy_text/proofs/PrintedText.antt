-- What was printed is read.
use Rattle.std.proofs.Common.{ℕ, suc, ◌≡◌, ◌+◌, ◌<◌, ◌≤◌, ◌^◌, List, [], ◌∷◌, ◌++◌, length, codes, decimal, Bool, true, false, Ok, inl, inr, refl, ap, sym, subst, ◌∙◌, append_assoc, append-nil}
use Rattle.std.specs.List.{AllByRecursion}
use Rattle.std.specs.Str.{is_utf8}
use Rattle.cy_msg.specs.Quoted.{quoted}
use Rattle.cy_text.specs.Letters.{is_blank, is_word, starts}
use Rattle.cy_text.specs.Fields.{Fields, Held, Nothing, And, Whole, Literal, Word, Quote, Message}
use Rattle.cy_text.specs.Printed.{sign_text, fields_text, held_text, printed}
use Rattle.cy_text.specs.Pieces.{IsFloat, IsWord}
use Rattle.cy_text.specs.Printable.{IsLiteral, IsPrintable, IsPrintableHeld, without_spans, held_without_spans, SameButSpans}
use Rattle.cy_text.specs.Tokens.{tokens_from, tokens_of}
use Rattle.cy_text.specs.Grammar.{on, followed, depth_of, depth_held, IsLabel, plain, with_colon, one, whole, literal, negative_literal, word, IsFields, none, field, single, IsValue, unsigned, signed, strings, message, IsTextOf}
use Rattle.cy_text.specs.Places.{fields_of_text}
use Rattle.cy_text.specs.declared.number.Number.TheVariants as number
use Rattle.cy_text.specs.declared.token.Bracket.TheVariants.{Brace}
use Rattle.cy_text.specs.declared.token.Token.{Token}
use Rattle.cy_text.specs.declared.token.Token.TheVariants as token
use Rattle.cy_text.specs.declared.token.Lexeme.{Lexeme}
use Rattle.cy_text.specs.declared.tree.Span.{Span}
use Rattle.cy_text.proofs.Lexed.{Lexes, lexes_nothing, lexes_on, lexes_blank, lexes_word, lexes_colon, lexes_minus, lexes_open, lexes_close, lexes_number, lexes_quote}
use Rattle.cy_text.proofs.Numerals.{float_begins, float_number}
use Rattle.cy_text.proofs.WholeText.{whole_line}
use Rattle.cy_text.proofs.QuotedText.{quoted_read}
use Rattle.cy_text.proofs.FormReads.{form_read}
use Rattle.cy_text.specs.Cuts.{IsCut}
use Rattle.cy_text.proofs.CutText.{read_is_cut}

-- a text, and one without tokens behind it
lexes_gap : (at : ℕ) (a b rest : List ℕ) (ts : List Lexeme) → Lexes at a (b ++ rest) ts → Lexes (at + length a) b rest [] → Lexes at (a ++ b) rest ts
lexes_gap at a b rest ts p q = subst (Lexes at (a ++ b) rest) (append-nil ts) (lexes_on at a b rest ts [] p q)

abbrev AreBlanks : List ℕ → Type 0
AreBlanks bytes = AllByRecursion (λ b. is_blank b ≡ true) bytes

lexes_margin : (at : ℕ) (margin rest : List ℕ) → AreBlanks margin → Lexes at margin rest []
lexes_margin at [] rest h = lexes_nothing at rest
lexes_margin at (b ∷ margin) rest h = lexes_on at (b ∷ []) margin rest [] [] (lexes_blank at b (margin ++ rest) h.0) (lexes_margin (at + 1) margin rest h.1)

wider : (margin : List ℕ) → AreBlanks margin → AreBlanks (margin ++ codes "  ")
wider [] h = (refl, (refl, tt))
wider (b ∷ margin) h = (h.0, wider margin h.1)

-- A value at the end of a line is read to one that says the same.
record ValueRead (at : ℕ) (text : List ℕ) (held : Held) : Type 0 where
  tokens : List Lexeme
  other : Held
  form : IsValue true tokens other
  same : held_without_spans other ≡ held_without_spans held
  lexes : (rest : List ℕ) → Lexes at text (10 ∷ rest) tokens

-- So is what stands behind a name.
record HeldRead (at : ℕ) (text : List ℕ) (held : Held) : Type 0 where
  colon : Bool
  marks : List Lexeme
  values : List Lexeme
  other : Held
  label : (name : List ℕ) (s : Span) → IsLabel colon name (on s (token.Word name) ∷ marks)
  form : IsValue colon values other
  same : held_without_spans other ≡ held_without_spans held
  ends : (rest : List ℕ) → starts is_word (text ++ rest) ≡ false
  lexes : (rest : List ℕ) → Lexes at text (10 ∷ rest) (marks ++ values)

-- So are fields, whatever follows them.
record FieldsRead (at : ℕ) (text : List ℕ) (fields : Fields) : Type 0 where
  tokens : List Lexeme
  others : Fields
  form : IsFields tokens others
  same : without_spans others ≡ without_spans fields
  lexes : (rest : List ℕ) → Lexes at text rest tokens

abbrev to : ℕ → List ℕ → Span
to at text = record { start = at; end = at + length text }

behind_colon : (at : ℕ) (text : List ℕ) (held : Held) → ValueRead (at + 2) text held → HeldRead at (codes ": " ++ text) held
behind_colon at text held v = let marks = on (record { start = at; end = at + 1 }) token.Colon ∷ [] in record {
  colon = true;
  marks = marks;
  values = v.tokens;
  other = v.other;
  label = λ name s. with_colon s _;
  form = v.form;
  same = v.same;
  ends = λ rest. refl;
  lexes = λ rest. lexes_on at (codes ": ") text (10 ∷ rest) marks v.tokens
      (lexes_gap at (58 ∷ []) (32 ∷ []) (text ++ 10 ∷ rest) marks (lexes_colon at (32 ∷ text ++ 10 ∷ rest)) (lexes_blank (at + 1) 32 (text ++ 10 ∷ rest) refl)) (v.lexes rest);
}

-- One token, with a minus before it or without one.
one_token : (at : ℕ) (text : List ℕ) (kind : Token) (held : Held) → ((rest : List ℕ) → Lexes at text (10 ∷ rest) (on (to at text) kind ∷ [])) → IsValue true (on (to at text) kind ∷ []) held
    → ValueRead at text held
one_token at text kind held lexes form = record { tokens = _; other = held; form = form; same = refl; lexes = lexes }

two_tokens : (at : ℕ) (text : List ℕ) (kind : Token) (held : Held) → ((rest : List ℕ) → Lexes (at + 1) text (10 ∷ rest) (on (to (at + 1) text) kind ∷ []))
    → ((m : Span) → IsValue true (on m token.Minus ∷ on (to (at + 1) text) kind ∷ []) held) → ValueRead at (45 ∷ text) held
two_tokens at text kind held lexes form = record {
  tokens = _;
  other = held;
  form = form (record { start = at; end = at + 1 });
  same = refl;
  lexes = λ rest. lexes_on at (45 ∷ []) text (10 ∷ rest) (on (record { start = at; end = at + 1 }) token.Minus ∷ []) (on (to (at + 1) text) kind ∷ []) (lexes_minus at (text ++ 10 ∷ rest)) (lexes rest);
}

whole_lexes : (at size : ℕ) (rest : List ℕ) → size < 2 ^ 64 → Lexes at (decimal size) (10 ∷ rest) (on (to at (decimal size)) (token.Whole size) ∷ [])
whole_lexes at size rest h = let p = whole_line size rest h in lexes_number at (decimal size) (10 ∷ rest) (number.Whole size) p.0 p.1

literal_lexes : (at : ℕ) (text rest : List ℕ) → IsFloat text → Lexes at text (10 ∷ rest) (on (to at text) (token.Literal text) ∷ [])
literal_lexes at text rest h = lexes_number at text (10 ∷ rest) number.Literal (float_begins h) (float_number (10 ∷ rest) h refl)

whole_value : (at : ℕ) (negative : Bool) (size : ℕ) → size < 2 ^ 64 → ValueRead at (sign_text negative ++ decimal size) (Whole negative size)
whole_value at false size h = one_token at (decimal size) (token.Whole size) (Whole false size) (λ rest. whole_lexes at size rest h) (unsigned _ whole)
whole_value at true size h = two_tokens at (decimal size) (token.Whole size) (Whole true size) (λ rest. whole_lexes (at + 1) size rest h) (λ m. signed m _ whole)

word_value : (at : ℕ) (negative : Bool) (text : List ℕ) → IsWord text → ValueRead at (sign_text negative ++ text) (Word negative text)
word_value at false text h = one_token at text (token.Word text) (Word false text) (λ rest. lexes_word at text (10 ∷ rest) h refl) (unsigned _ word)
word_value at true text h = two_tokens at text (token.Word text) (Word true text) (λ rest. lexes_word (at + 1) text (10 ∷ rest) h refl) (λ m. signed m _ word)

literal_value : (at : ℕ) (text : List ℕ) → IsLiteral text → ValueRead at text (Literal text)
literal_value at text (inl h) = one_token at text (token.Literal text) (Literal text) (λ rest. literal_lexes at text rest h) (unsigned _ literal)
literal_value at text (inr h) = subst (λ (bytes : List ℕ). ValueRead at bytes (Literal bytes)) (sym h.1)
    (two_tokens at h.0 (token.Literal h.0) (Literal (45 ∷ h.0)) (λ rest. literal_lexes (at + 1) h.0 rest h.2) (λ m. signed m _ negative_literal))

quote_value : (at : ℕ) (is_text : Bool) (bytes : List ℕ) → IsPrintableHeld (Quote bytes) → ValueRead at (quoted is_text bytes) (Quote bytes)
unfolding quoted
quote_value at is_text bytes h = one_token at (quoted is_text bytes) (token.Quote bytes) (Quote bytes) (λ rest. lexes_quote at _ (10 ∷ rest) bytes (quoted_read is_text bytes h at (10 ∷ rest))) (strings (one _))

opening : (at : ℕ) (rest : List ℕ) → Lexes at (codes " {\n") rest (on (record { start = at + 1; end = at + 1 + 1 }) (token.Open Brace) ∷ [])
opening at rest =
    let o = on (record { start = at + 1; end = at + 1 + 1 }) (token.Open Brace) in
    lexes_on at (32 ∷ []) (123 ∷ 10 ∷ []) rest [] (o ∷ []) (lexes_blank at 32 (123 ∷ 10 ∷ rest) refl)
    (lexes_gap (at + 1) (123 ∷ []) (10 ∷ []) rest (o ∷ []) (lexes_open (at + 1) (10 ∷ rest)) (lexes_blank (at + 1 + 1) 10 rest refl))

mutual
  held_read : (held : Held) → IsPrintableHeld held → (margin : List ℕ) → AreBlanks margin → (at : ℕ) → HeldRead at (held_text margin held) held
  held_read (Whole negative size) h margin blank at = subst (λ (bytes : List ℕ). HeldRead at bytes (Whole negative size)) (sym (append_assoc (codes ": ") (sign_text negative) (decimal size)))
      (behind_colon at _ _ (whole_value (at + 2) negative size h))
  held_read (Literal text) h margin blank at = behind_colon at _ _ (literal_value (at + 2) text h)
  held_read (Word negative text) h margin blank at = subst (λ (bytes : List ℕ). HeldRead at bytes (Word negative text)) (sym (append_assoc (codes ": ") (sign_text negative) text))
      (behind_colon at _ _ (word_value (at + 2) negative text h))
  held_read (Quote bytes) h margin blank at = behind_colon at _ _ (quote_value (at + 2) (is_utf8 bytes) bytes h)
  held_read (Message fields) h margin blank at =
      let inner = fields_read fields h (margin ++ codes "  ") (wider margin blank) (at + length (codes " {\n")) in
      let prefix = codes " {\n" in
      let text = fields_text (margin ++ codes "  ") fields in
      let o : Span = record { start = at + 1; end = at + 1 + 1 } in
      let place = at + length (prefix ++ text ++ margin) in
      let c : Span = record { start = place; end = place + 1 } in
      record {
        colon = false;
        marks = [];
        values = on o (token.Open Brace) ∷ inner.tokens ++ on c (token.Close Brace) ∷ [];
        other = Message inner.others;
        label = λ name s. plain s;
        form = message Brace o c inner.form;
        same = ap Message inner.same;
        ends = λ rest. refl;
        lexes = λ rest. lexes_on at (prefix ++ text ++ margin) (125 ∷ []) (10 ∷ rest) (on o (token.Open Brace) ∷ inner.tokens) (on c (token.Close Brace) ∷ [])
            (lexes_gap at (prefix ++ text) margin (125 ∷ 10 ∷ rest) (on o (token.Open Brace) ∷ inner.tokens)
            (lexes_on at prefix text (margin ++ 125 ∷ 10 ∷ rest) (on o (token.Open Brace) ∷ []) inner.tokens (opening at (text ++ (margin ++ 125 ∷ 10 ∷ rest))) (inner.lexes (margin ++ 125 ∷ 10 ∷ rest)))
            (lexes_margin (at + length (prefix ++ text)) margin (125 ∷ 10 ∷ rest) blank))
            (lexes_close place (10 ∷ rest));
      }

  fields_read : (fields : Fields) → IsPrintable fields → (margin : List ℕ) → AreBlanks margin → (at : ℕ) → FieldsRead at (fields_text margin fields) fields
  fields_read Nothing h margin blank at = record { tokens = []; others = Nothing; form = none; same = refl; lexes = λ rest. lexes_nothing at rest }
  fields_read (And before name span held) h margin blank at =
      let prefix = fields_read before h.0 margin blank at in
      let line = at + length (fields_text margin before) in
      let value = held_read held h.2 margin blank (line + length (margin ++ name)) in
      let s : Span = to (line + length margin) name in
      let text = held_text margin held in
      record {
        tokens = prefix.tokens ++ ((on s (token.Word name) ∷ value.marks) ++ value.values);
        others = And prefix.others name _ value.other;
        form = field prefix.form (single (value.label name s) value.form);
        same = rw (prefix.same, value.same) refl;
        lexes = λ rest. lexes_on at (fields_text margin before) (margin ++ name ++ text ++ 10 ∷ []) rest prefix.tokens ((on s (token.Word name) ∷ value.marks) ++ value.values)
            (prefix.lexes (margin ++ name ++ text ++ 10 ∷ [] ++ rest))
            (lexes_gap line (margin ++ name ++ text) (10 ∷ []) rest ((on s (token.Word name) ∷ value.marks) ++ value.values)
            (lexes_on line (margin ++ name) text (10 ∷ rest) (on s (token.Word name) ∷ []) (value.marks ++ value.values)
            (lexes_on line margin name (text ++ 10 ∷ rest) [] (on s (token.Word name) ∷ []) (lexes_margin line margin (name ++ (text ++ 10 ∷ rest)) blank)
            (lexes_word (line + length margin) name (text ++ 10 ∷ rest) h.1 (value.ends (10 ∷ rest)))) (value.lexes rest))
            (lexes_blank (line + length (margin ++ name ++ text)) 10 rest refl));
      }

-- How deep messages stand doesn't hang on where they stand.
mutual
  depth_same : (fields : Fields) → depth_of (without_spans fields) ≡ depth_of fields
  depth_same Nothing = refl
  depth_same (And before name span held) = rw (depth_same before, depth_held_same held) refl

  depth_held_same : (held : Held) → depth_held (held_without_spans held) ≡ depth_held held
  depth_held_same (Whole negative size) = refl
  depth_held_same (Literal text) = refl
  depth_held_same (Word negative text) = refl
  depth_held_same (Quote bytes) = refl
  depth_held_same (Message fields) = ap suc (depth_same fields)

form_of : (text : List ℕ) (fields : Fields) (tokens : List Lexeme) → tokens_of text ≡ followed tokens (tokens_from (0 + length text) 0 []) → IsFields tokens fields → depth_of fields ≤ 64 → IsTextOf text fields
unfolding tokens_from
form_of text fields tokens all form low = record { tokens = tokens; end = 0 + length text; cut = subst (IsCut 0 text) all (read_is_cut text); form = form; depth = low }

-- What was printed is read as the same but for spans.
pub printed_read : (fields : Fields) → IsPrintable fields → depth_of fields ≤ 64 → (others : Fields) × (fields_of_text (printed fields) ≡ Ok others) × SameButSpans fields others
printed_read fields h low =
    let p = fields_read fields h [] tt 0 in
    let depth : depth_of p.others ≡ depth_of fields = sym (depth_same p.others) ∙ ap depth_of p.same ∙ depth_same fields in
    let all : tokens_of (printed fields) ≡ followed p.tokens (tokens_from (0 + length (printed fields)) 0 []) = rw append-nil at (p.lexes []) in
    (p.others, form_read (printed fields) p.others (form_of (printed fields) p.others p.tokens all p.form (rw depth low)), sym p.same)
