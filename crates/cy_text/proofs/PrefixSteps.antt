-- A token that may stand behind others makes them a longer prefix.
use Rattle.std.proofs.Common.{ℕ, ◌≡◌, nat_lt, length, List, [], ◌∷◌, ◌++◌, Bool, true, false, cond, Result, Ok, Err, refl, ap, sym, subst, ◌∙◌, append_assoc, append-nil}
use Rattle.cy_text.specs.Fields.{Fields, Held, And, Whole, Literal, Word, Quote, Message}
use Rattle.cy_text.specs.Form.{Building, Reading, reading, begun, after_token, placed, opened, closed, at_field, at_message, at_value, after_name, after_colon, at_item, at_first_item, after_item, after_sign, after_value, after_string}
use Rattle.cy_text.specs.Grammar.{on, end_of, comma, semicolon, plain, with_colon, one, more, whole, literal, negative_literal, word, none, first, next, unsigned, signed, strings, message}
use Rattle.cy_text.specs.declared.token.Bracket.{Bracket}
use Rattle.cy_text.specs.declared.token.Bracket.TheVariants.{Brace, Angle}
use Rattle.cy_text.specs.declared.token.Token.{Token}
use Rattle.cy_text.specs.declared.token.Token.TheVariants as token
use Rattle.cy_text.specs.declared.token.Lexeme.{Lexeme}
use Rattle.cy_text.specs.declared.tree.Span.{Span}
use Rattle.cy_text.specs.declared.expected.Frame.{Frame}
use Rattle.cy_text.specs.declared.expected.Place.{Place}
use Rattle.cy_text.specs.declared.expected.Place.TheVariants as place
use Rattle.cy_text.specs.declared.expected.Slot.{Slot}
use Rattle.cy_text.specs.declared.expected.Expected.{Expected}
use Rattle.cy_text.specs.declared.expected.Expected.TheVariants as expect
use Rattle.cy_text.specs.declared.fault.Fault.{Fault}
use Rattle.cy_text.proofs.FormRuns.{end_last}
use Rattle.cy_text.proofs.Prefixes.{Ended, InList, ListStart, Behind, Awaits, Named, Inside, item_place, PrefixOf, Prefix, behind_prefix, named}

abbrev answer : Reading → Result Reading Fault
answer r = Ok r

prefix_by : {x y : Reading} (ts : List Lexeme) → answer x ≡ answer y → Prefix x ts → Prefix y ts
prefix_by {x = x} {y = y} ts e f = let same : x ≡ y = cc in subst (λ (r : Reading). Prefix r ts) same f

only_ok : (c : Bool) (x y : Reading) (f : Fault) → cond c (answer x) (Err f) ≡ answer y → answer x ≡ answer y
only_ok true x y f e = e
only_ok false x y f e = absurd (cc)

-- the same value and the same tokens
moved : (inside : Fields → List Lexeme → Type 0) (slot : Slot) (fields : Fields) (name : List ℕ) (start : ℕ) (held : Held) {e d : ℕ} {ts us : List Lexeme} → e ≡ d → ts ≡ us
    → Behind inside slot (And fields name (record { start = start; end = e }) held) ts → Behind inside slot (And fields name (record { start = start; end = d }) held) us
moved inside slot fields name start held {e = e} {us = us} p q h =
    subst (λ (n : ℕ). Behind inside slot (And fields name (record { start = start; end = n }) held) us) p
    (subst (λ (vs : List Lexeme). Behind inside slot (And fields name (record { start = start; end = e }) held) vs) q h)

pub item_is : (b : Building) (slot : Slot) (l : Lexeme) (colon : Bool) → slot.place ≡ item_place colon → at_item b slot l ≡ cond colon (at_value b slot l) (at_message b slot l)
unfolding at_item
item_is b slot l true p = ap (λ (q : Place). elim q [ place.MessageItem ↦ at_message b slot l | place.Item ↦ at_value b slot l | place.Field ↦ at_value b slot l ]) p
item_is b slot l false p = ap (λ (q : Place). elim q [ place.MessageItem ↦ at_message b slot l | place.Item ↦ at_value b slot l | place.Field ↦ at_value b slot l ]) p

none_open : (fields : Fields) (mark : Bracket) (at end : ℕ) (r : Reading) → closed (record { frames = []; fields = fields }) mark at end ≡ Ok r → ⊥
unfolding closed
none_open fields mark at end r e = cc

module _ (b : Building) (ts : List Lexeme) (s : Span) (r : Reading) where
  opens : (colon : Bool) (slot : Slot) (mark : Bracket) → Awaits (Inside b.frames) colon slot b.fields ts → opened b (begun slot s.start) mark s.start ≡ Ok r → Prefix r (ts ++ on s (token.Open mark) ∷ [])
  unfolding opened
  opens colon slot mark h e = prefix_by _ (only_ok (nat_lt (length b.frames) 64) _ _ _ e) (record {
    prefix = ts ++ on s (token.Open mark) ∷ [];
    inner = [];
    tokens = sym (append-nil (ts ++ on s (token.Open mark) ∷ []));
    are = none;
    close = λ others after c f. moved (Inside b.frames) slot b.fields slot.name _ (Message after) (end_last s.end others (on c (token.Close mark)))
        (sym (append_assoc ts (on s (token.Open mark) ∷ []) (others ++ on c (token.Close mark) ∷ [])))
        (h (on s (token.Open mark) ∷ others ++ on c (token.Close mark) ∷ []) (Message after) (message mark s c f));
  })

  message_prefix : (colon : Bool) (slot : Slot) (t : Token) → Awaits (Inside b.frames) colon slot b.fields ts → at_message b slot (on s t) ≡ Ok r → Prefix r (ts ++ on s t ∷ [])
  unfolding at_message
  message_prefix colon slot (token.Open mark) h e = opens colon slot mark h e
  message_prefix colon slot t h e = absurd (cc)

  value_prefix : (slot : Slot) (t : Token) → Awaits (Inside b.frames) true slot b.fields ts → at_value b slot (on s t) ≡ Ok r → Prefix r (ts ++ on s t ∷ [])
  unfolding at_value
  value_prefix slot (token.Open mark) h e = opens true slot mark h e
  value_prefix slot token.Minus h e = prefix_by _ e (λ kind held u p. moved (Inside b.frames) slot b.fields slot.name _ held refl
      (sym (append_assoc ts (on s token.Minus ∷ []) (on u kind ∷ []))) (h (on s token.Minus ∷ on u kind ∷ []) held (signed s u p)))
  value_prefix slot (token.Whole size) h e = prefix_by _ e (behind_prefix b s.end (Whole false size) _ (begun slot s.start) (h (on s (token.Whole size) ∷ []) (Whole false size) (unsigned s whole)))
  value_prefix slot (token.Literal text) h e = prefix_by _ e (behind_prefix b s.end (Literal text) _ (begun slot s.start) (h (on s (token.Literal text) ∷ []) (Literal text) (unsigned s literal)))
  value_prefix slot (token.Word text) h e = prefix_by _ e (behind_prefix b s.end (Word false text) _ (begun slot s.start) (h (on s (token.Word text) ∷ []) (Word false text) (unsigned s word)))
  value_prefix slot (token.Quote bytes) h e = prefix_by _ e (record {
    prefix = ts;
    quotes = on s (token.Quote bytes) ∷ [];
    tokens = refl;
    are = one s;
    ends = refl;
    value = λ others all f. h (on s (token.Quote bytes) ∷ others) (Quote all) (strings f);
  })
  value_prefix slot t h e = absurd (cc)

  closes : (frames : List Frame) (fields : Fields) (frame : Frame) (mark : Bracket) → frame.bracket ≡ mark → Inside (frame ∷ frames) fields ts
      → Ok (placed (record { frames = frames; fields = frame.fields }) frame.slot s.end (Message fields)) ≡ answer r → Prefix r (ts ++ on s (token.Close mark) ∷ [])
  closes frames fields frame mark same w e = prefix_by _ e (behind_prefix (record { frames = frames; fields = frame.fields }) s.end (Message fields) _ frame.slot
      (subst (λ us. Behind (Inside frames) frame.slot (And frame.fields frame.slot.name (record { start = frame.slot.start; end = s.end }) (Message fields)) us)
      (sym (append_assoc w.prefix w.inner (on s (token.Close frame.bracket) ∷ [])) ∙ ap (λ xs. xs ++ on s (token.Close frame.bracket) ∷ []) (sym w.tokens)
      ∙ ap (λ (m : Bracket). ts ++ on s (token.Close m) ∷ []) same) (w.close w.inner fields s w.are)))

  by_bracket : (frames : List Frame) (fields : Fields) (frame : Frame) (other mark : Bracket) → frame.bracket ≡ other → Inside (frame ∷ frames) fields ts
      → closed (record { frames = frame ∷ frames; fields = fields }) mark s.start s.end ≡ Ok r → Prefix r (ts ++ on s (token.Close mark) ∷ [])
  unfolding closed
  by_bracket frames fields frame Brace Brace same w e = closes frames fields frame Brace same w (rw same at e)
  by_bracket frames fields frame Brace Angle same w e = absurd (cc)
  by_bracket frames fields frame Angle Brace same w e = absurd (cc)
  by_bracket frames fields frame Angle Angle same w e = closes frames fields frame Angle same w (rw same at e)

  closed_prefix : (frames : List Frame) (fields : Fields) (mark : Bracket) → Inside frames fields ts → closed (record { frames = frames; fields = fields }) mark s.start s.end ≡ Ok r
      → Prefix r (ts ++ on s (token.Close mark) ∷ [])
  closed_prefix [] fields mark f e = absurd (none_open fields mark s.start s.end r e)
  closed_prefix (frame ∷ frames) fields mark w e = by_bracket frames fields frame frame.bracket mark refl w e

  now_inside : (x : Bool) → PrefixOf b (expect.Field x) ts → Inside b.frames b.fields ts
  now_inside true h = h.now
  now_inside false h = h

  field_prefix : (x : Bool) (t : Token) → PrefixOf b (expect.Field x) ts → at_field b x (on s t) ≡ Ok r → Prefix r (ts ++ on s t ∷ [])
  unfolding at_field
  field_prefix x (token.Word text) h e = prefix_by _ e (
    refl,
    named b.frames b.fields ts (now_inside x h) (plain s),
    λ c.
        subst (λ us. Named (Inside b.frames) true (record { name = text; start = s.start; place = place.Field }) b.fields us)
        (sym (append_assoc ts (on s (token.Word text) ∷ []) (on c token.Colon ∷ []))) (named b.frames b.fields ts (now_inside x h) (with_colon s c)),
  )
  field_prefix x (token.Close mark) h e = closed_prefix b.frames b.fields mark (now_inside x h) e
  field_prefix true token.Comma h e = prefix_by _ e (h.separate token.Comma s comma)
  field_prefix true token.Semicolon h e = prefix_by _ e (h.separate token.Semicolon s semicolon)
  field_prefix x t h e = absurd (cc)

  name_prefix : (slot : Slot) (t : Token) → PrefixOf b (expect.AfterName slot) ts → after_name b slot (on s t) ≡ Ok r → Prefix r (ts ++ on s t ∷ [])
  unfolding after_name
  name_prefix slot token.Colon h e = prefix_by _ e (h.0, h.2 s)
  name_prefix slot token.ListOpen h e = prefix_by _ e (false, refl, h.1.list s)
  name_prefix slot t h e = message_prefix false slot t h.1.value e

  colon_prefix : (slot : Slot) (t : Token) → PrefixOf b (expect.AfterColon slot) ts → after_colon b slot (on s t) ≡ Ok r → Prefix r (ts ++ on s t ∷ [])
  unfolding after_colon
  colon_prefix slot token.ListOpen h e = prefix_by _ e (true, refl, h.1.list s)
  colon_prefix slot t h e = value_prefix slot t h.1.value e

  item_step : (colon : Bool) (slot : Slot) (t : Token) → slot.place ≡ item_place colon → Awaits (Inside b.frames) colon slot b.fields ts → at_item b slot (on s t) ≡ Ok r → Prefix r (ts ++ on s t ∷ [])
  item_step true slot t p h e = value_prefix slot t h (sym (item_is b slot (on s t) true p) ∙ e)
  item_step false slot t p h e = message_prefix false slot t h (sym (item_is b slot (on s t) false p) ∙ e)

  -- an item may follow the bracket of a list
  pub first_awaits : (colon : Bool) (slot : Slot) → slot.place ≡ item_place colon → ListStart (Inside b.frames) colon slot.name b.fields ts → Awaits (Inside b.frames) colon slot b.fields ts
  first_awaits true slot p h = subst (λ (q : Place). Awaits (Inside b.frames) true (record { name = slot.name; start = slot.start; place = q }) b.fields ts) (sym p)
      (λ vs held v. record { prefix = ts; items = vs; before = b.fields; tokens = refl; are = first v; close = h.items })
  first_awaits false slot p h = subst (λ (q : Place). Awaits (Inside b.frames) false (record { name = slot.name; start = slot.start; place = q }) b.fields ts) (sym p)
      (λ vs held v. record { prefix = ts; items = vs; before = b.fields; tokens = refl; are = first v; close = h.items })

  first_prefix : (slot : Slot) (t : Token) → PrefixOf b (expect.FirstItem slot) ts → at_first_item b slot (on s t) ≡ Ok r → Prefix r (ts ++ on s t ∷ [])
  unfolding at_first_item
  first_prefix slot token.ListClose h e = prefix_by _ e (h.2.close s)
  first_prefix slot t h e = item_step h.0 slot t h.1 (first_awaits h.0 slot h.1 h.2) e

  -- an item may follow a comma
  next_awaits : (colon : Bool) (slot : Slot) → slot.place ≡ item_place colon → InList (Inside b.frames) colon slot.name b.fields ts → Awaits (Inside b.frames) colon slot b.fields (ts ++ on s token.Comma ∷ [])
  next_awaits true slot p h = subst (λ (q : Place). Awaits (Inside b.frames) true (record { name = slot.name; start = slot.start; place = q }) b.fields (ts ++ on s token.Comma ∷ [])) (sym p)
      (λ vs held v. record {
        prefix = h.prefix;
        items = h.items ++ on s token.Comma ∷ vs;
        before = h.before;
        tokens = ap (λ (us : List Lexeme). us ++ on s token.Comma ∷ [] ++ vs) h.tokens ∙ simp append_assoc;
        are = next h.are s v;
        close = h.close;
      })
  next_awaits false slot p h = subst (λ (q : Place). Awaits (Inside b.frames) false (record { name = slot.name; start = slot.start; place = q }) b.fields (ts ++ on s token.Comma ∷ [])) (sym p)
      (λ vs held v. record {
        prefix = h.prefix;
        items = h.items ++ on s token.Comma ∷ vs;
        before = h.before;
        tokens = ap (λ (us : List Lexeme). us ++ on s token.Comma ∷ [] ++ vs) h.tokens ∙ simp append_assoc;
        are = next h.are s v;
        close = h.close;
      })

  list_ends : (inside : Fields → List Lexeme → Type 0) (colon : Bool) (name : List ℕ) (fields : Fields) → InList inside colon name fields ts → Ended inside fields (ts ++ on s token.ListClose ∷ [])
  list_ends inside colon name fields h = subst (λ us. Ended inside fields us)
      (sym (append_assoc h.prefix h.items (on s token.ListClose ∷ [])) ∙ ap (λ xs. xs ++ on s token.ListClose ∷ []) (sym h.tokens)) (h.close h.items fields s h.are)

  after_item_prefix : (slot : Slot) (t : Token) → PrefixOf b (expect.AfterItem slot) ts → after_item b slot (on s t) ≡ Ok r → Prefix r (ts ++ on s t ∷ [])
  unfolding after_item
  after_item_prefix slot token.Comma h e = prefix_by _ e (h.0, h.1, next_awaits h.0 slot h.1 h.2)
  after_item_prefix slot token.ListClose h e = prefix_by _ e (list_ends (Inside b.frames) h.0 slot.name b.fields h.2)
  after_item_prefix slot t h e = absurd (cc)

  sign_prefix : (slot : Slot) (t : Token) → PrefixOf b (expect.Signed slot) ts → after_sign b slot (on s t) ≡ Ok r → Prefix r (ts ++ on s t ∷ [])
  unfolding after_sign
  sign_prefix slot (token.Whole size) h e = prefix_by _ e (behind_prefix b s.end (Whole true size) _ slot (h (token.Whole size) _ s whole))
  sign_prefix slot (token.Literal text) h e = prefix_by _ e (behind_prefix b s.end (Literal (45 ∷ text)) _ slot (h (token.Literal text) _ s negative_literal))
  sign_prefix slot (token.Word text) h e = prefix_by _ e (behind_prefix b s.end (Word true text) _ slot (h (token.Word text) _ s word))
  sign_prefix slot t h e = absurd (cc)

-- behind a value that is placed
module _ (b : Building) (ts : List Lexeme) (s : Span) (r : Reading) where
  behind_placed : (name : List ℕ) (start : ℕ) (p : Place) (end : ℕ) (held : Held) (t : Token) → Prefix (placed b (record { name = name; start = start; place = p }) end held) ts
      → after_value (placed b (record { name = name; start = start; place = p }) end held) (on s t) ≡ Ok r → Prefix r (ts ++ on s t ∷ [])
  unfolding after_value placed
  behind_placed name start place.Field end held t h e = field_prefix _ ts s r true t h e
  behind_placed name start place.Item end held t h e = after_item_prefix _ ts s r _ t h e
  behind_placed name start place.MessageItem end held t h e = after_item_prefix _ ts s r _ t h e

  -- the strings so far are the value
  pub quote_placed : (slot : Slot) (bytes : List ℕ) (end : ℕ) → PrefixOf b (expect.Strings slot bytes end) ts → Prefix (placed b slot end (Quote bytes)) ts
  quote_placed slot bytes end h = behind_prefix b end (Quote bytes) ts slot
      (moved (Inside b.frames) slot b.fields slot.name slot.start (Quote bytes) (ap (end_of 0) (append-nil h.quotes) ∙ sym h.ends) (ap (λ us. h.prefix ++ us) (append-nil h.quotes) ∙ sym h.tokens)
      (h.value [] bytes (rw append-nil h.are)))

  string_prefix : (slot : Slot) (bytes : List ℕ) (end : ℕ) (t : Token) → PrefixOf b (expect.Strings slot bytes end) ts → after_string b slot bytes end (on s t) ≡ Ok r → Prefix r (ts ++ on s t ∷ [])
  unfolding after_string
  string_prefix slot bytes end (token.Quote other) h e = prefix_by _ e (record {
    prefix = h.prefix;
    quotes = h.quotes ++ on s (token.Quote other) ∷ [];
    tokens = ap (λ us. us ++ on s (token.Quote other) ∷ []) h.tokens ∙ append_assoc h.prefix h.quotes (on s (token.Quote other) ∷ []);
    are = more h.are s other;
    ends = sym (end_last 0 h.quotes (on s (token.Quote other)));
    value = λ others all f. rw (append_assoc h.quotes (on s (token.Quote other) ∷ []) others) (h.value (on s (token.Quote other) ∷ others) all (rw append_assoc at f));
  })
  string_prefix slot bytes end t h e = behind_placed slot.name slot.start slot.place end (Quote bytes) t (quote_placed slot bytes end h) e

  step_at : (next : Expected) (t : Token) → PrefixOf b next ts → after_token (reading b next) (on s t) ≡ Ok r → Prefix r (ts ++ on s t ∷ [])
  unfolding after_token
  step_at (expect.Field x) t h e = field_prefix b ts s r x t h e
  step_at (expect.AfterName slot) t h e = name_prefix b ts s r slot t h e
  step_at (expect.AfterColon slot) t h e = colon_prefix b ts s r slot t h e
  step_at (expect.FirstItem slot) t h e = first_prefix b ts s r slot t h e
  step_at (expect.Item slot) t h e = item_step b ts s r h.0 slot t h.1 h.2 e
  step_at (expect.AfterItem slot) t h e = after_item_prefix b ts s r slot t h e
  step_at (expect.Signed slot) t h e = sign_prefix b ts s r slot t h e
  step_at (expect.Strings slot bytes end) t h e = string_prefix slot bytes end t h e

-- One more token.
pub step_prefix : (r : Reading) (ts : List Lexeme) (l : Lexeme) (n : Reading) → Prefix r ts → after_token r l ≡ Ok n → Prefix n (ts ++ l ∷ [])
step_prefix r ts l n h e = step_at r.building ts l.span n r.next l.token h e
