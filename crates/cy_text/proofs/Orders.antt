-- Fields stand in the order of their tokens.
use Rattle.std.proofs.Common.{ℕ, ◌≡◌, ◌<◌, ◌≤◌, ◌+◌, List, [], ◌∷◌, ◌++◌, length, length-append, Bool, arith}
use Rattle.cy_text.specs.Fields.{Fields, Held, Nothing, And}
use Rattle.cy_text.specs.Grammar.{on, end_of, start_of, span_of, IsLabel, plain, with_colon, IsStrings, one, more, IsPlain, whole, literal, negative_literal, word, IsFields, none, field, separated, IsField, single, empty, list, IsItems, first, next, IsValue, unsigned, signed, strings, message}
use Rattle.cy_text.specs.Spans.{AreInOrder, IsInOrder}
use Rattle.cy_text.specs.declared.token.Token.{Token}
use Rattle.cy_text.specs.declared.token.Token.TheVariants as token
use Rattle.cy_text.specs.declared.token.Lexeme.{Lexeme}
use Rattle.cy_text.specs.declared.tree.Span.{Span}
use Rattle.cy_text.proofs.FormRuns.{end_last, value_end}

-- Tokens stand in their order between two places.
abbrev pub InRow : ℕ → ℕ → List Lexeme → Type 0
InRow low high [] = low ≤ high
InRow low high (t ∷ ts) = (low ≤ t.span.start) × (t.span.start < t.span.end) × InRow t.span.end high ts

row_fits : (low high : ℕ) (ts : List Lexeme) → InRow low high ts → low ≤ high
row_fits low high [] h = h
row_fits low high (t ∷ ts) h = omega (arith, h.0, h.1, row_fits t.span.end high ts h.2)

row_end : (low high : ℕ) (ts : List Lexeme) → InRow low high ts → (low ≤ end_of low ts) × (end_of low ts ≤ high)
row_end low high [] h = (omega arith, h)
row_end low high (t ∷ ts) h = let p = row_end t.span.end high ts h.2 in (omega (arith, p.0, h.0, h.1), p.1)

pub lower : (low least high : ℕ) (ts : List Lexeme) → least ≤ low → InRow low high ts → InRow least high ts
lower low least high [] h row = omega arith
lower low least high (t ∷ ts) h row = (omega (arith, row.0), row.1, row.2)

-- the first ones, and the others behind them
split : (low high : ℕ) (ts us : List Lexeme) → InRow low high (ts ++ us) → (middle : ℕ) × InRow low middle ts × InRow middle high us
split low high [] us h = (low, omega arith, h)
split low high (t ∷ ts) us h = let p = split t.span.end high ts us h.2 in (p.0, (h.0, h.1, p.1), p.2)

-- some tokens
bounds : (low high : ℕ) (ts : List Lexeme) → 0 < length ts → InRow low high ts → (low ≤ start_of ts) × (start_of ts < end_of 0 ts) × (end_of 0 ts ≤ high)
bounds low high [] some h = absurd (omega arith)
bounds low high (t ∷ ts) some h = let p = row_end t.span.end high ts h.2 in (h.0, omega (arith, h.1, p.0), p.1)

strings_some : {ts : List Lexeme} {bytes : List ℕ} → IsStrings ts bytes → 0 < length ts
strings_some (one s) = omega arith
strings_some (more {ts = ts} f s bytes) = omega (arith, length-append ts (on s (token.Quote bytes) ∷ []))

value_some : {colon : Bool} {vs : List Lexeme} {held : Held} → IsValue colon vs held → 0 < length vs
value_some (unsigned s p) = omega arith
value_some (signed m s p) = omega arith
value_some (strings f) = strings_some f
value_some (message mark o c f) = omega arith

single_some : {colon : Bool} {name : List ℕ} {label : List Lexeme} → IsLabel colon name label → (vs : List Lexeme) → 0 < length (label ++ vs)
single_some (plain s) vs = omega arith
single_some (with_colon s c) vs = omega arith

tight : (low high : ℕ) (ts : List Lexeme) → 0 < length ts → InRow low high ts → InRow (start_of ts) high ts
tight low high [] some h = absurd (omega arith)
tight low high (t ∷ ts) some h = (omega arith, h.1, h.2)

behind_label : {colon : Bool} {name : List ℕ} {label vs : List Lexeme} {held : Held} → IsLabel colon name label → IsValue colon vs held → (low high : ℕ) → InRow low high (label ++ vs)
    → (middle : ℕ) × (start_of (label ++ vs) ≤ middle) × InRow middle high vs × (end_of 0 (label ++ vs) ≡ end_of 0 vs)
behind_label (plain s) v low high h = (s.end, omega (arith, h.1), h.2, value_end v s.end 0)
behind_label (with_colon s c) v low high h = (c.end, omega (arith, h.1, h.2.0, h.2.1), h.2.2, value_end v c.end 0)

-- Fields between other places.
widen : (fields : Fields) (low high least most : ℕ) → AreInOrder low high fields → least ≤ low → high ≤ most → AreInOrder least most fields
widen Nothing low high least most h p q = omega arith
widen (And before name span held) low high least most h p q = (widen before low span.start least span.start h.0 p (omega arith), h.1, omega (arith, h.2), h.3)

plain_order : {kind : Token} {negative : Bool} {held : Held} → IsPlain kind negative held → (s : Span) → IsInOrder s held
plain_order whole s = tt
plain_order literal s = tt
plain_order negative_literal s = tt
plain_order word s = tt

mutual
  value_order : {colon : Bool} {vs : List Lexeme} {held : Held} → IsValue colon vs held → (low high : ℕ) → InRow low high vs → (s : Span) → s.start ≤ low → end_of 0 vs ≤ s.end → IsInOrder s held
  value_order (unsigned t p) low high h s before behind = plain_order p s
  value_order (signed m t p) low high h s before behind = plain_order p s
  value_order (strings f) low high h s before behind = tt
  value_order (message {ts = ts} {fields = fields} mark o c f) low high h s before behind =
      let p = split o.end high ts (on c (token.Close mark) ∷ []) h.2 in
      let last : end_of o.end (ts ++ on c (token.Close mark) ∷ []) ≡ c.end = end_last o.end ts (on c (token.Close mark)) in
      widen fields o.end p.0 (s.start + 1) s.end (fields_order f o.end p.0 p.1) (omega (arith, h.0, h.1)) (omega (arith, last, p.2.0, p.2.1))

  items_order : {colon : Bool} {name : List ℕ} {ts : List Lexeme} {before after : Fields} → IsItems colon name ts before after → (least low high : ℕ) → AreInOrder least low before → InRow low high ts → AreInOrder least high after
  items_order (first {vs = vs} {before = before} v) least low high prefix h =
      let p = bounds low high vs (value_some v) h in
      (widen before least low least (start_of vs) prefix (omega arith) p.0, p.1, p.2, value_order v (start_of vs) high (tight low high vs (value_some v) h) (span_of vs) (omega arith) (omega arith))
  items_order (next {ts = ts} {vs = vs} {middle = middle} i s v) least low high prefix h =
      let p = split low high ts (on s token.Comma ∷ vs) h in
      let q = bounds s.end high vs (value_some v) p.2.2 in (
        widen middle least p.0 least (start_of vs) (items_order i least low p.0 prefix p.1) (omega arith) (omega (arith, p.2.0, p.2.1, q.0)),
        q.1,
        q.2,
        value_order v (start_of vs) high (tight s.end high vs (value_some v) p.2.2) (span_of vs) (omega arith) (omega arith),
      )

  field_order : {us : List Lexeme} {before after : Fields} → IsField us before after → (least low high : ℕ) → AreInOrder least low before → InRow low high us → AreInOrder least high after
  field_order (single {label = label} {vs = vs} {before = before} l v) least low high prefix h =
      let p = bounds low high (label ++ vs) (single_some l vs) h in
      let q = behind_label l v low high h in
      (widen before least low least (start_of (label ++ vs)) prefix (omega arith) p.0, p.1, p.2, value_order v q.0 high q.2 (span_of (label ++ vs)) q.1 (omega (arith, q.3)))
  field_order (empty {before = before} l o c) least low high prefix h = widen before least low least high prefix (omega arith) (row_fits low high _ h)
  field_order (list {label = label} {ts = ts} {before = before} {after = after} l o c i) least low high prefix h =
      let p = split low high label (on o token.ListOpen ∷ ts ++ on c token.ListClose ∷ []) h in
      let q = split o.end high ts (on c token.ListClose ∷ []) p.2.2 in
      let items = items_order i least o.end q.0 (widen before least low least o.end prefix (omega arith) (omega (arith, row_fits low p.0 label p.1, p.2.0, p.2.1))) q.1 in
      widen after least q.0 least high items (omega arith) (row_fits q.0 high (on c token.ListClose ∷ []) q.2)

  pub fields_order : {ts : List Lexeme} {fields : Fields} → IsFields ts fields → (low high : ℕ) → InRow low high ts → AreInOrder low high fields
  fields_order none low high h = h
  fields_order (field {ts = ts} {us = us} f g) low high h =
      let p = split low high ts us h in
      field_order g low p.0 high (fields_order f low p.0 p.1) p.2
  fields_order (separated {ts = ts} {us = us} {after = after} {mark = mark} f g m s) low high h =
      let p = split low high ts (us ++ on s mark ∷ []) h in
      let q = split p.0 high us (on s mark ∷ []) p.2 in
      widen after low q.0 low high (field_order g low p.0 q.0 (fields_order f low p.0 p.1) q.1) (omega arith) (row_fits q.0 high (on s mark ∷ []) q.2)
