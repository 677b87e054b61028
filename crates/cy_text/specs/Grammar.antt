-- The text form as a grammar: which tokens are fields, a field, a list's items or a value, and what
-- they say.
use Rattle.std.specs.Prelude.{ℕ, suc, ◌≤◌, max, List, [], ◌∷◌, ◌++◌, Bool, true, false}
use Rattle.cy_text.specs.Fields.{Fields, Held, Nothing, And, Whole, Literal, Word, Quote, Message}
use Rattle.cy_text.specs.Cuts.{IsCut}
use Rattle.cy_text.specs.Tokens.{Tokens, Next, End}
use Rattle.cy_text.specs.declared.token.Bracket.{Bracket}
use Rattle.cy_text.specs.declared.token.Token.{Token}
use Rattle.cy_text.specs.declared.token.Token.TheVariants as token
use Rattle.cy_text.specs.declared.token.Lexeme.{Lexeme}
use Rattle.cy_text.specs.declared.tree.Span.{Span}

-- A token that stands somewhere.
abbrev pub on : Span → Token → Lexeme
on span kind = record { token = kind; span = span }

-- Where some tokens end that stand behind a place.
abbrev pub end_of : ℕ → List Lexeme → ℕ
end_of place [] = place
end_of place (t ∷ ts) = end_of t.span.end ts

-- Where they begin.
abbrev pub start_of : List Lexeme → ℕ
start_of [] = 0
start_of (t ∷ ts) = t.span.start

-- From the start of the first token to the end of the last.
abbrev pub span_of : List Lexeme → Span
span_of ts = record { start = start_of ts; end = end_of 0 ts }

-- A comma or a semicolon.
pub data IsSeparator : Token → Type 0 where
  comma : IsSeparator token.Comma
  semicolon : IsSeparator token.Semicolon

-- A field's name, and a colon behind it or none.
pub data IsLabel : (colon : Bool) (name : List ℕ) → List Lexeme → Type 0 where
  plain : {name : List ℕ} (s : Span) → IsLabel false name (on s (token.Word name) ∷ [])
  with_colon : {name : List ℕ} (s c : Span) → IsLabel true name (on s (token.Word name)
      ∷ on c token.Colon ∷ [])

-- A string, or strings in a row.
pub data IsStrings : List Lexeme → List ℕ → Type 0 where
  one : {bytes : List ℕ} (s : Span) → IsStrings (on s (token.Quote bytes) ∷ []) bytes
  more : {ts : List Lexeme} {prefix : List ℕ} → IsStrings ts prefix → (s : Span) (bytes : List ℕ)
      → IsStrings (ts ++ on s (token.Quote bytes) ∷ []) (prefix ++ bytes)

-- A number or a word, and what it says with or without a sign.
pub data IsPlain : Token → (negative : Bool) → Held → Type 0 where
  whole : {negative : Bool} {size : ℕ} → IsPlain (token.Whole size) negative (Whole negative size)
  literal : {text : List ℕ} → IsPlain (token.Literal text) false (Literal text)
  negative_literal : {text : List ℕ} → IsPlain (token.Literal text) true (Literal (45 ∷ text))
  word : {negative : Bool} {text : List ℕ} → IsPlain (token.Word text) negative (Word negative text)

mutual
  -- Fields in their order, each with at most one separator behind it.
  pub data IsFields : List Lexeme → Fields → Type 0 where
    none : IsFields [] Nothing
    field : {ts us : List Lexeme} {before after : Fields} → IsFields ts before
        → IsField us before after → IsFields (ts ++ us) after
    separated : {ts us : List Lexeme} {before after : Fields} {mark : Token} → IsFields ts before
        → IsField us before after → IsSeparator mark → (s : Span)
        → IsFields (ts ++ (us ++ on s mark ∷ [])) after

  -- A field behind others, and all of them with it. A list gives a field for each of its items, an
  -- empty one none.
  pub data IsField : List Lexeme → (before after : Fields) → Type 0 where
    single : {colon : Bool} {name : List ℕ} {label vs : List Lexeme} {before : Fields} {held : Held}
        → IsLabel colon name label → IsValue colon vs held
        → IsField (label ++ vs) before (And before name (span_of (label ++ vs)) held)
    empty : {colon : Bool} {name : List ℕ} {label : List Lexeme} {before : Fields}
        → IsLabel colon name label → (o c : Span)
        → IsField (label ++ on o token.ListOpen ∷ on c token.ListClose ∷ []) before before
    list : {colon : Bool} {name : List ℕ} {label ts : List Lexeme} {before after : Fields}
        → IsLabel colon name label → (o c : Span) → IsItems colon name ts before after
        → IsField (label ++ (on o token.ListOpen ∷ ts ++ on c token.ListClose ∷ [])) before after

  -- The items of a list, with commas between them, as fields of one name behind others.
  pub data IsItems : (colon : Bool) (name : List ℕ) → List Lexeme → (before after : Fields)
      → Type 0 where
    first : {colon : Bool} {name : List ℕ} {vs : List Lexeme} {before : Fields} {held : Held}
        → IsValue colon vs held
        → IsItems colon name vs before (And before name (span_of vs) held)
    next : {colon : Bool} {name : List ℕ} {ts vs : List Lexeme} {before middle : Fields}
        {held : Held} → IsItems colon name ts before middle → (s : Span) → IsValue colon vs held
        → IsItems colon name (ts ++ on s token.Comma ∷ vs) before
        (And middle name (span_of vs) held)

  -- A value: a message, or, behind a colon alone, a number, a word or strings. A message ends with
  -- the bracket that it begins with.
  pub data IsValue : (colon : Bool) → List Lexeme → Held → Type 0 where
    unsigned : {kind : Token} {held : Held} (s : Span) → IsPlain kind false held
        → IsValue true (on s kind ∷ []) held
    signed : {kind : Token} {held : Held} (m s : Span) → IsPlain kind true held
        → IsValue true (on m token.Minus ∷ on s kind ∷ []) held
    strings : {ts : List Lexeme} {bytes : List ℕ} → IsStrings ts bytes
        → IsValue true ts (Quote bytes)
    message : {colon : Bool} {ts : List Lexeme} {fields : Fields} (mark : Bracket) (o c : Span)
        → IsFields ts fields
        → IsValue colon (on o (token.Open mark) ∷ ts ++ on c (token.Close mark) ∷ [])
        (Message fields)

-- How deep messages stand in one another: 0 where there are none.
abbrev mutual
  pub depth_of : Fields → ℕ
  depth_of Nothing = 0
  depth_of (And before name span held) = max (depth_of before) (depth_held held)

  pub depth_held : Held → ℕ
  depth_held (Whole negative size) = 0
  depth_held (Literal text) = 0
  depth_held (Word negative text) = 0
  depth_held (Quote bytes) = 0
  depth_held (Message fields) = suc (depth_of fields)

-- Tokens in front of others.
abbrev pub followed : List Lexeme → Tokens → Tokens
followed [] rest = rest
followed (t ∷ ts) rest = Next t (followed ts rest)

-- A text of the form, and the fields that it says: it is cut up to its end into tokens that are
-- these fields, and messages stand at most 64 deep.
pub record IsTextOf (text : List ℕ) (fields : Fields) : Type 0 where
  pub tokens : List Lexeme
  pub end : ℕ
  pub cut : IsCut 0 text (followed tokens (End end))
  pub form : IsFields tokens fields
  pub depth : depth_of fields ≤ 64

-- Tokens that are a prefix of fields, in which messages may stand at any depth.
pub record IsPrefix (ts : List Lexeme) : Type 0 where
  pub rest : List Lexeme
  pub fields : Fields
  pub form : IsFields (ts ++ rest) fields

-- Tokens that are a prefix of a text of the form: of fields in which messages stand at most 64
-- deep.
pub record IsTextPrefix (ts : List Lexeme) : Type 0 where
  pub rest : List Lexeme
  pub fields : Fields
  pub form : IsFields (ts ++ rest) fields
  pub depth : depth_of fields ≤ 64
