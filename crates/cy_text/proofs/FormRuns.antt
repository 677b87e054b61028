-- Tokens of the grammar are read.
use Rattle.std.proofs.Common.{ℕ, ◌≡◌, ◌≤◌, List, [], ◌∷◌, ◌++◌, Bool, true, false, Result, Ok, refl, ap, sym, ◌∙◌, arith, append_assoc}
use Rattle.std.proofs.lemmas.Bool.{false≢true}
use Rattle.std.proofs.Math.Nat.{le-max_left}
use Rattle.cy_text.specs.Fields.{Fields, Held, And}
use Rattle.cy_text.specs.Form.{Building, Reading, reading, begun, after_token, placed, at_value, at_message, after_name, after_colon, at_item, at_first_item, after_sign, after_string}
use Rattle.cy_text.specs.Grammar.{on, end_of, start_of, span_of, depth_of, depth_held, IsLabel, plain, with_colon, IsStrings, one, more, IsPlain, whole, literal, negative_literal, word, IsField, single, empty, list, IsItems, first, next, IsValue, unsigned, signed, strings, message}
use Rattle.cy_text.specs.declared.token.Token.{Token}
use Rattle.cy_text.specs.declared.token.Token.TheVariants as token
use Rattle.cy_text.specs.declared.token.Lexeme.{Lexeme}
use Rattle.cy_text.specs.declared.tree.Span.{Span}
use Rattle.cy_text.specs.declared.expected.Frame.{Frame}
use Rattle.cy_text.specs.declared.expected.Place.TheVariants as place
use Rattle.cy_text.specs.declared.expected.Slot.{Slot}
use Rattle.cy_text.specs.declared.expected.Expected.TheVariants as expect
use Rattle.cy_text.specs.declared.fault.Fault.{Fault}
use Rattle.cy_text.proofs.Runs.{run, run_one, run_behind, NoStringFirst}

-- Where tokens begin and end.
pub end_last : (at : ℕ) (ts : List Lexeme) (t : Lexeme) → end_of at (ts ++ t ∷ []) ≡ t.span.end
end_last at [] t = refl
end_last at (u ∷ ts) t = end_last u.span.end ts t

strings_start : {ts : List Lexeme} {bytes : List ℕ} → IsStrings ts bytes → (us : List Lexeme) → start_of (ts ++ us) ≡ start_of ts
strings_start (one s) us = refl
strings_start (more {ts = ts} f s bytes) us =
    let before : start_of (ts ++ on s (token.Quote bytes) ∷ us) ≡ start_of ts = strings_start f _ in
    let here : start_of (ts ++ on s (token.Quote bytes) ∷ []) ≡ start_of ts = strings_start f _ in
    ap start_of (append_assoc ts (on s (token.Quote bytes) ∷ []) us) ∙ before ∙ sym here

strings_end : {ts : List Lexeme} {bytes : List ℕ} → IsStrings ts bytes → (a b : ℕ) → end_of a ts ≡ end_of b ts
strings_end (one s) a b = refl
strings_end (more {ts = ts} f s bytes) a b = end_last a ts _ ∙ sym (end_last b ts _)

pub value_end : {colon : Bool} {ts : List Lexeme} {held : Held} → IsValue colon ts held → (a b : ℕ) → end_of a ts ≡ end_of b ts
value_end (unsigned s p) a b = refl
value_end (signed m s p) a b = refl
value_end (strings f) a b = strings_end f a b
value_end (message mark o c f) a b = refl

pub label_span : {colon : Bool} {name : List ℕ} {label vs : List Lexeme} {held : Held} → IsLabel colon name label → IsValue colon vs held
    → record { start = start_of label; end = end_of 0 vs } ≡ span_of (label ++ vs)
label_span (plain s) v = ap (λ (e : ℕ). record { start = s.start; end = e }) (value_end v _ _)
label_span (with_colon s c) v = ap (λ (e : ℕ). record { start = s.start; end = e }) (value_end v _ _)

pub field_starts : {us : List Lexeme} {before after : Fields} → IsField us before after → (vs : List Lexeme) → NoStringFirst (us ++ vs)
field_starts (single (plain s) v) vs = refl
field_starts (single (with_colon s c) v) vs = refl
field_starts (empty (plain s) o c) vs = refl
field_starts (empty (with_colon s d) o c) vs = refl
field_starts (list (plain s) o c i) vs = refl
field_starts (list (with_colon s d) o c i) vs = refl

pub items_depth : {colon : Bool} {name : List ℕ} {ts : List Lexeme} {before after : Fields} → IsItems colon name ts before after → depth_of before ≤ depth_of after
items_depth (first {before = before} {held = held} v) = le-max_left (depth_of before) (depth_held held)
items_depth (next {middle = middle} {held = held} i s v) = omega (arith, items_depth i, le-max_left (depth_of middle) (depth_held held))

pub field_depth : {us : List Lexeme} {before after : Fields} → IsField us before after → depth_of before ≤ depth_of after
field_depth (single {before = before} {held = held} l v) = le-max_left (depth_of before) (depth_held held)
field_depth (empty l o c) = omega arith
field_depth (list l o c i) = items_depth i

-- Which tokens begin a value, and what is read at them.
abbrev pub begins : Bool → Token → Bool
begins colon (token.Open mark) = true
begins colon token.Minus = colon
begins colon (token.Whole size) = colon
begins colon (token.Literal text) = colon
begins colon (token.Word text) = colon
begins colon (token.Quote bytes) = colon
begins colon _ = false

abbrev pub value_step : Bool → Building → Slot → Lexeme → Result Reading Fault
value_step true b slot l = at_value b slot l
value_step false b slot l = at_message b slot l

-- A value may stand next.
abbrev pub Awaits : Reading → Building → Slot → Bool → Type 0
Awaits r b slot colon = (s : Span) (t : Token) → begins colon t ≡ true → after_token r (on s t) ≡ value_step colon b slot (on s t)

pub awaits_name : (b : Building) (slot : Slot) → Awaits (reading b (expect.AfterName slot)) b slot false
unfolding after_token after_name
awaits_name b slot s (token.Open mark) h = refl
awaits_name b slot s t h = absurd (false≢true h)

pub awaits_colon : (b : Building) (slot : Slot) → Awaits (reading b (expect.AfterColon slot)) b slot true
unfolding after_token after_colon
awaits_colon b slot s (token.Open mark) h = refl
awaits_colon b slot s token.Minus h = refl
awaits_colon b slot s (token.Whole size) h = refl
awaits_colon b slot s (token.Literal text) h = refl
awaits_colon b slot s (token.Word text) h = refl
awaits_colon b slot s (token.Quote bytes) h = refl
awaits_colon b slot s t h = absurd (false≢true h)

-- The slot of a list's items.
abbrev pub item_slot : Bool → List ℕ → ℕ → Slot
item_slot true name start = record { name = name; start = start; place = place.Item }
item_slot false name start = record { name = name; start = start; place = place.MessageItem }

pub awaits_item : (b : Building) (colon : Bool) (name : List ℕ) (start : ℕ) → Awaits (reading b (expect.Item (item_slot colon name start))) b (item_slot colon name start) colon
unfolding after_token at_item
awaits_item b true name start s t h = refl
awaits_item b false name start s t h = refl

pub awaits_first : (b : Building) (colon : Bool) (name : List ℕ) (start : ℕ) → Awaits (reading b (expect.FirstItem (item_slot colon name start))) b (item_slot colon name start) colon
unfolding after_token at_first_item at_item
awaits_first b colon name start s token.ListClose h = absurd (false≢true h)
awaits_first b true name start s t h = refl
awaits_first b false name start s t h = refl

pub item_placed : (frames : List Frame) (before : Fields) (colon : Bool) (name : List ℕ) (start at end : ℕ) (held : Held)
    → placed (record { frames = frames; fields = before }) (begun (item_slot colon name start) at) end held
    ≡ reading (record { frames = frames; fields = And before name (record { start = at; end = end }) held }) (expect.AfterItem (item_slot colon name at))
unfolding placed
item_placed frames before true name start at end held = refl
item_placed frames before false name start at end held = refl

-- Numbers, words and strings.
pub plain_begins : {kind : Token} {held : Held} → IsPlain kind false held → begins true kind ≡ true
plain_begins whole = refl
plain_begins literal = refl
plain_begins word = refl

pub plain_read : {kind : Token} {held : Held} → IsPlain kind false held → (b : Building) (slot : Slot) (s : Span) → at_value b slot (on s kind) ≡ Ok (placed b (begun slot s.start) s.end held)
unfolding at_value
plain_read whole b slot s = refl
plain_read literal b slot s = refl
plain_read word b slot s = refl

pub signed_read : {kind : Token} {held : Held} → IsPlain kind true held → (b : Building) (slot : Slot) (s : Span) → after_token (reading b (expect.Signed slot)) (on s kind) ≡ Ok (placed b slot s.end held)
unfolding after_token after_sign
signed_read whole b slot s = refl
signed_read negative_literal b slot s = refl
signed_read word b slot s = refl

pub sign_read : (b : Building) (slot : Slot) (m : Span) → at_value b slot (on m token.Minus) ≡ Ok (reading b (expect.Signed (begun slot m.start)))
unfolding at_value
sign_read b slot m = refl

string_read : (b : Building) (slot : Slot) (s : Span) (bytes : List ℕ) → at_value b slot (on s (token.Quote bytes)) ≡ Ok (reading b (expect.Strings (begun slot s.start) bytes s.end))
unfolding at_value
string_read b slot s bytes = refl

string_added : (b : Building) (slot : Slot) (prefix : List ℕ) (end : ℕ) (s : Span) (bytes : List ℕ)
    → after_token (reading b (expect.Strings slot prefix end)) (on s (token.Quote bytes)) ≡ Ok (reading b (expect.Strings slot (prefix ++ bytes) s.end))
unfolding after_token after_string
string_added b slot prefix end s bytes = refl

module _ (r : Reading) (b : Building) (slot : Slot) (h : Awaits r b slot true) where
  pub strings_read : {ts : List Lexeme} {bytes : List ℕ} → IsStrings ts bytes → run r ts ≡ Ok (reading b (expect.Strings (begun slot (start_of ts)) bytes (end_of 0 ts)))
  strings_read (one {bytes = bytes} s) = run_one r _ _ (h s (token.Quote bytes) refl ∙ string_read b slot s bytes)
  strings_read (more {ts = ts} {prefix = prefix} f s bytes) =
      let q = on s (token.Quote bytes) in
      let start : start_of (ts ++ q ∷ []) ≡ start_of ts = strings_start f (q ∷ []) in
      let end : end_of 0 (ts ++ q ∷ []) ≡ s.end = end_last 0 ts q in
      rw (start, end) (run_behind r _ ts (q ∷ []) (strings_read f) ∙ run_one _ _ q (string_added b (begun slot (start_of ts)) prefix (end_of 0 ts) s bytes))
