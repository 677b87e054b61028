-- What the grammar has is read.
use Rattle.std.proofs.Common.{ℕ, suc, ◌≡◌, ◌<◌, ◌≤◌, ◌+◌, max, nat_lt, List, [], ◌∷◌, ◌++◌, length, Bool, true, false, Result, Ok, Err, refl, ap, ◌∙◌, arith, append-nil, cond}
use Rattle.std.proofs.lemmas.Bool.Decides.{nat_tests}
use Rattle.cy_text.specs.Fields.{Fields, Held, Nothing, And, Message}
use Rattle.cy_text.specs.Strings.{and_then}
use Rattle.cy_text.specs.Form.{Building, Reading, reading, begun, after_token, placed, opened, closed, at_field, at_value, at_message, after_name, after_colon, at_first_item, after_item, all_closed, finish, read, read_text, unread}
use Rattle.cy_text.specs.Grammar.{on, end_of, start_of, span_of, depth_of, depth_held, IsSeparator, comma, semicolon, IsLabel, plain, with_colon, IsFields, none, field, separated, IsField, single, empty, list, IsItems, first, next, IsValue, unsigned, signed, strings, message, IsTextOf, IsPlain, whole, literal, negative_literal, word}
use Rattle.cy_text.specs.Places.{with_place, fields_of_text}
use Rattle.cy_text.specs.declared.token.Bracket.{Bracket}
use Rattle.cy_text.specs.declared.token.Bracket.TheVariants.{Brace, Angle}
use Rattle.cy_text.specs.declared.token.Token.{Token}
use Rattle.cy_text.specs.declared.token.Token.TheVariants as token
use Rattle.cy_text.specs.declared.token.Lexeme.{Lexeme}
use Rattle.cy_text.specs.declared.tree.Span.{Span}
use Rattle.cy_text.specs.declared.expected.Frame.{Frame}
use Rattle.cy_text.specs.declared.expected.Place.TheVariants as place
use Rattle.cy_text.specs.declared.expected.Slot.{Slot}
use Rattle.cy_text.specs.declared.expected.Expected.TheVariants as expect
use Rattle.cy_text.specs.declared.fault.Fault.{Fault}
use Rattle.cy_text.specs.declared.fault.Fault.TheVariants.{TooDeep}
use Rattle.cy_text.proofs.Runs.{run, run_one, run_behind, run_to_end, settled, placed_is_settled, finish_settled, NoStringFirst, Leads, there, deep, lead_on, lead_by}
use Rattle.cy_text.proofs.FormRuns.{end_last, label_span, field_starts, field_depth, value_step, Awaits, awaits_name, awaits_colon, item_slot, awaits_item, awaits_first, item_placed, plain_begins, plain_read, signed_read, sign_read, strings_read}
use Rattle.cy_text.proofs.CutText.{cut_is_read}

-- Fields of the innermost message are read, and others may follow.
abbrev pub in_fields : List Frame → Fields → Bool → Reading
in_fields frames fields after_field = reading (record { frames = frames; fields = fields }) (expect.Field after_field)

-- the same of other depths
deeper : {r s : Reading} {ts : List Lexeme} (f e g d : ℕ) → Leads r ts s f e → e ≤ d → (g ≤ 64 → f ≤ 64) → (g ≤ 64 → e ≤ 64 → d ≤ 64) → Leads r ts s g d
deeper f e g d (there n ran settles below) h start end = there n ran settles (λ low. end low (below (start low)))
deeper f e g d (deep at failed above) h start end = deep at failed (omega arith)

-- tokens that are read at once
at_once : {r n : Reading} (ts : List Lexeme) (d : ℕ) → run r ts ≡ Ok n → settled n ≡ n → Leads r ts n d d
at_once ts d ran settles = there _ ran settles (λ low. low)

-- A message's brackets.
abbrev inside : Building → Slot → Bracket → Reading
inside b slot mark = in_fields (record { fields = b.fields; slot = slot; bracket = mark } ∷ b.frames) Nothing false

open_step : (colon : Bool) (b : Building) (slot : Slot) (mark : Bracket) (o : Span)
    → value_step colon b slot (on o (token.Open mark)) ≡ cond (nat_lt (length b.frames) 64) (Ok (inside b (begun slot o.start) mark)) (Err (TooDeep o.start))
unfolding at_value at_message opened
open_step true b slot mark o = refl
open_step false b slot mark o = refl

same_closed : (frames : List Frame) (frame : Frame) (fields : Fields) (c : Span) (mark : Bracket) → frame.bracket ≡ mark
    → closed (record { frames = frame ∷ frames; fields = fields }) mark c.start c.end ≡ Ok (placed (record { frames = frames; fields = frame.fields }) frame.slot c.end (Message fields))
unfolding closed
same_closed frames frame fields c Brace e = rw e refl
same_closed frames frame fields c Angle e = rw e refl

pub close_step : (frames : List Frame) (frame : Frame) (fields : Fields) (x : Bool) (c : Span)
    → after_token (in_fields (frame ∷ frames) fields x) (on c (token.Close frame.bracket)) ≡ Ok (placed (record { frames = frames; fields = frame.fields }) frame.slot c.end (Message fields))
unfolding after_token at_field
close_step frames frame fields x c = same_closed frames frame fields c frame.bracket refl

-- The tokens of a label.
pub record Labelled (r : Reading) (b : Building) (colon : Bool) (name : List ℕ) (label : List Lexeme) : Type 0 where
  pub behind : Reading
  pub reads : run r label ≡ Ok behind
  pub value : Awaits behind b (record { name = name; start = start_of label; place = place.Field }) colon
  pub list : (o : Span) → after_token behind (on o token.ListOpen) ≡ Ok (reading b (expect.FirstItem (item_slot colon name (start_of label))))

labelled : {colon : Bool} {name : List ℕ} {label : List Lexeme} → IsLabel colon name label → (b : Building) (x : Bool) → Labelled (reading b (expect.Field x)) b colon name label
unfolding after_token at_field after_name after_colon
labelled (plain {name = name} s) b x =
    let slot : Slot = record { name = name; start = s.start; place = place.Field } in
    record { behind = reading b (expect.AfterName slot); reads = refl; value = awaits_name b slot; list = λ o. refl }
labelled (with_colon {name = name} s c) b x =
    let slot : Slot = record { name = name; start = s.start; place = place.Field } in
    record { behind = reading b (expect.AfterColon slot); reads = refl; value = awaits_colon b slot; list = λ o. refl }

no_item : (b : Building) (slot : Slot) (c : Span) → after_token (reading b (expect.FirstItem slot)) (on c token.ListClose) ≡ Ok (reading b (expect.Field true))
unfolding after_token at_first_item
no_item b slot c = refl

last_item : (b : Building) (slot : Slot) (c : Span) → after_token (reading b (expect.AfterItem slot)) (on c token.ListClose) ≡ Ok (reading b (expect.Field true))
unfolding after_token after_item
last_item b slot c = refl

next_item : (b : Building) (slot : Slot) (c : Span) → after_token (reading b (expect.AfterItem slot)) (on c token.Comma) ≡ Ok (reading b (expect.Item slot))
unfolding after_token after_item
next_item b slot c = refl

separate : {mark : Token} → IsSeparator mark → (frames : List Frame) (fields : Fields) (s : Span) → after_token (in_fields frames fields true) (on s mark) ≡ Ok (in_fields frames fields false)
unfolding after_token at_field
separate comma frames fields s = refl
separate semicolon frames fields s = refl

separator_first : {mark : Token} → IsSeparator mark → (s : Span) → NoStringFirst (on s mark ∷ [])
separator_first comma s = refl
separator_first semicolon s = refl

-- the field behind a label
placed_field : (frames : List Frame) (before : Fields) (name : List ℕ) (start at end : ℕ) (held : Held)
    → placed (record { frames = frames; fields = before }) (begun (record { name = name; start = start; place = place.Field }) at) end held
    ≡ in_fields frames (And before name (record { start = start; end = end }) held) true
unfolding placed
placed_field frames before name start at end held = refl

-- Some fields, then others.
pub record ReadFields (frames : List Frame) (ts : List Lexeme) (fields : Fields) : Type 0 where
  pub after_field : Bool
  pub leads : Leads (in_fields frames Nothing false) ts (in_fields frames fields after_field) (length frames) (length frames + depth_of fields)

-- Some items behind fields, and where the last one begins.
pub record ReadItems (r : Reading) (frames : List Frame) (colon : Bool) (name : List ℕ) (ts : List Lexeme) (before after : Fields) : Type 0 where
  pub last : ℕ
  pub leads : Leads r ts (reading (record { frames = frames; fields = after }) (expect.AfterItem (item_slot colon name last))) (length frames + depth_of before) (length frames + depth_of after)

module _ (r : Reading) (b : Building) (slot : Slot) (colon : Bool) (h : Awaits r b slot colon) (mark : Bracket) (o c : Span) (ts : List Lexeme) (fields : Fields) where
  by_room : (room : Bool) → nat_lt (length b.frames) 64 ≡ room → ReadFields (record { fields = b.fields; slot = begun slot o.start; bracket = mark } ∷ b.frames) ts fields
      → Leads r (on o (token.Open mark) ∷ ts ++ on c (token.Close mark) ∷ []) (placed b (begun slot o.start) c.end (Message fields)) (length b.frames) (length b.frames + suc (depth_of fields))
  by_room true e inner =
      let opens : after_token r (on o (token.Open mark)) ≡ Ok (inside b (begun slot o.start) mark) = h o (token.Open mark) refl ∙ open_step colon b slot mark o ∙ rw e refl in
      let frame : Frame = record { fields = b.fields; slot = begun slot o.start; bracket = mark } in
      let room : length b.frames < 64 = grind (arith, nat_tests) in
      lead_by (on o (token.Open mark) ∷ []) (ts ++ on c (token.Close mark) ∷ []) _ _ (run_one r _ _ opens)
      (deeper (length (frame ∷ b.frames)) _ _ _
      (lead_on ts (on c (token.Close mark) ∷ []) _ _ (length (frame ∷ b.frames) + depth_of fields) inner.leads (omega arith)
      (at_once _ _ (run_one _ _ _ (close_step b.frames frame fields inner.after_field c)) (placed_is_settled b (begun slot o.start) c.end (Message fields))) refl)
      (omega arith) (λ low. omega arith) (λ low all. omega arith))
  by_room false e inner =
      let fails : after_token r (on o (token.Open mark)) ≡ Err (TooDeep o.start) = h o (token.Open mark) refl ∙ open_step colon b slot mark o ∙ rw e refl in
      deep o.start (rw fails refl) (grind (arith, nat_tests))

  message_read : ReadFields (record { fields = b.fields; slot = begun slot o.start; bracket = mark } ∷ b.frames) ts fields
      → Leads r (on o (token.Open mark) ∷ ts ++ on c (token.Close mark) ∷ []) (placed b (begun slot o.start) c.end (Message fields)) (length b.frames) (length b.frames + suc (depth_of fields))
  message_read inner = by_room (nat_lt (length b.frames) 64) refl inner

-- a value that is no message
scalar_read : (r : Reading) (b : Building) (slot : Slot) (end : ℕ) (held : Held) (ts : List Lexeme) → depth_held held ≡ 0 → run r ts ≡ Ok (placed b slot end held)
    → Leads r ts (placed b slot end held) (length b.frames) (length b.frames + depth_held held)
scalar_read r b slot end held ts flat e = there (placed b slot end held) e (placed_is_settled b slot end held) (λ low. omega arith)

plain_flat : {kind : Token} {negative : Bool} {held : Held} → IsPlain kind negative held → depth_held held ≡ 0
plain_flat whole = refl
plain_flat literal = refl
plain_flat negative_literal = refl
plain_flat word = refl

-- a value as an item, or as a field, behind fields
as_item : (r : Reading) (frames : List Frame) (before : Fields) (colon : Bool) (name : List ℕ) (start : ℕ) (vs : List Lexeme) (held : Held)
    → Leads r vs (placed (record { frames = frames; fields = before }) (begun (item_slot colon name start) (start_of vs)) (end_of 0 vs) held) (length frames) (length frames + depth_held held)
    → Leads r vs (reading (record { frames = frames; fields = And before name (span_of vs) held }) (expect.AfterItem (item_slot colon name (start_of vs))))
    (length frames + depth_of before) (length frames + max (depth_of before) (depth_held held))
as_item r frames before colon name start vs held v =
    rw (← item_placed frames before colon name start (start_of vs) (end_of 0 vs) held) (deeper _ _ _ _ v (omega arith) (λ low. omega arith) (λ low all. omega arith))

as_field : (r : Reading) (frames : List Frame) (before : Fields) (name : List ℕ) (start : ℕ) (vs : List Lexeme) (held : Held)
    → Leads r vs (placed (record { frames = frames; fields = before }) (begun (record { name = name; start = start; place = place.Field }) (start_of vs)) (end_of 0 vs) held)
    (length frames) (length frames + depth_held held)
    → Leads r vs (in_fields frames (And before name (record { start = start; end = end_of 0 vs }) held) true) (length frames + depth_of before) (length frames + max (depth_of before) (depth_held held))
as_field r frames before name start vs held v =
    rw (← placed_field frames before name start (start_of vs) (end_of 0 vs) held) (deeper _ _ _ _ v (omega arith) (λ low. omega arith) (λ low all. omega arith))

mutual
  pub value_read : {colon : Bool} {vs : List Lexeme} {held : Held} → IsValue colon vs held → (r : Reading) (b : Building) (slot : Slot) → Awaits r b slot colon
      → Leads r vs (placed b (begun slot (start_of vs)) (end_of 0 vs) held) (length b.frames) (length b.frames + depth_held held)
  value_read (unsigned {kind = kind} {held = held} s p) r b slot h =
      scalar_read r b (begun slot s.start) s.end held _ (plain_flat p) (run_one r _ (on s kind) (h s kind (plain_begins p) ∙ plain_read p b slot s))
  value_read (signed {kind = kind} {held = held} m s p) r b slot h =
      scalar_read r b (begun slot m.start) s.end held _ (plain_flat p)
      (run_behind r _ (on m token.Minus ∷ []) (on s kind ∷ []) (run_one r _ _ (h m token.Minus refl ∙ sign_read b slot m)) ∙ run_one _ _ _ (signed_read p b (begun slot m.start) s))
  value_read (strings {ts = ts} {bytes = bytes} f) r b slot h = there _ (strings_read r b slot h f) refl (λ low. omega arith)
  value_read (message {colon = colon} {ts = ts} {fields = fields} mark o c f) r b slot h =
      rw (end_last o.end ts (on c (token.Close mark))) (message_read r b slot colon h mark o c ts fields (fields_read f (record { fields = b.fields; slot = begun slot o.start; bracket = mark } ∷ b.frames)))

  pub items_read : {colon : Bool} {name : List ℕ} {ts : List Lexeme} {before after : Fields} → IsItems colon name ts before after → (r : Reading) (frames : List Frame) (start : ℕ)
      → Awaits r (record { frames = frames; fields = before }) (item_slot colon name start) colon → ReadItems r frames colon name ts before after
  items_read (first {colon = colon} {name = name} {vs = vs} {before = before} {held = held} v) r frames start h = record {
    last = start_of vs;
    leads = as_item r frames before colon name start vs held (value_read v r (record { frames = frames; fields = before }) (item_slot colon name start) h);
  }
  items_read (next {colon = colon} {name = name} {ts = ts} {vs = vs} {before = before} {middle = middle} {held = held} i s v) r frames start h =
      let prefix = items_read i r frames start h in
      let b : Building = record { frames = frames; fields = middle } in
      record {
        last = start_of vs;
        leads = lead_on ts (on s token.Comma ∷ vs) _ (length frames + depth_of middle) _ prefix.leads (omega arith)
            (lead_by (on s token.Comma ∷ []) vs _ _ (run_one _ _ _ (next_item b (item_slot colon name prefix.last) s))
            (as_item _ frames middle colon name prefix.last vs held (value_read v _ b (item_slot colon name prefix.last) (awaits_item b colon name prefix.last)))) refl;
      }

  pub field_read : {us : List Lexeme} {before after : Fields} → IsField us before after → (frames : List Frame) (x : Bool)
      → Leads (in_fields frames before x) us (in_fields frames after true) (length frames + depth_of before) (length frames + depth_of after)
  field_read (single {colon = colon} {name = name} {label = label} {vs = vs} {before = before} {held = held} l v) frames x =
      let b : Building = record { frames = frames; fields = before } in
      let p = labelled l b x in
      lead_by label vs _ _ p.reads (rw (← label_span l v) (as_field p.behind frames before name (start_of label) vs held (value_read v p.behind b _ p.value)))
  field_read (empty {colon = colon} {name = name} {label = label} {before = before} l o c) frames x =
      let b : Building = record { frames = frames; fields = before } in
      let p = labelled l b x in
      lead_by label _ _ _ p.reads (at_once _ _ (run_behind p.behind _ (on o token.ListOpen ∷ []) (on c token.ListClose ∷ []) (run_one _ _ _ (p.list o))
      ∙ run_one _ _ _ (no_item b (item_slot colon name (start_of label)) c)) refl)
  field_read (list {colon = colon} {name = name} {label = label} {ts = ts} {before = before} {after = after} l o c i) frames x =
      let b : Building = record { frames = frames; fields = before } in
      let p = labelled l b x in
      let q = items_read i _ frames (start_of label) (awaits_first b colon name (start_of label)) in
      lead_by label _ _ _ p.reads (lead_by (on o token.ListOpen ∷ []) (ts ++ on c token.ListClose ∷ []) _ _ (run_one _ _ _ (p.list o))
      (lead_on ts (on c token.ListClose ∷ []) _ _ _ q.leads (omega arith)
      (at_once _ _ (run_one _ _ _ (last_item (record { frames = frames; fields = after }) (item_slot colon name q.last) c)) refl) refl))

  pub fields_read : {ts : List Lexeme} {fields : Fields} → IsFields ts fields → (frames : List Frame) → ReadFields frames ts fields
  fields_read none frames = record { after_field = false; leads = there _ refl refl (λ low. omega arith) }
  fields_read (field {ts = ts} {us = us} {before = before} {after = after} f g) frames =
      let p = fields_read f frames in
      record {
        after_field = true;
        leads = lead_on ts us _ _ _ p.leads (omega (arith, field_depth g)) (field_read g frames p.after_field) (rw append-nil at (field_starts g []));
      }
  fields_read (separated {ts = ts} {us = us} {before = before} {after = after} {mark = mark} f g m s) frames =
      let p = fields_read f frames in
      record {
        after_field = false;
        leads = lead_on ts (us ++ on s mark ∷ []) _ _ _ p.leads (omega (arith, field_depth g))
            (lead_on us (on s mark ∷ []) _ _ _ (field_read g frames p.after_field) (omega arith)
            (at_once _ _ (run_one _ _ _ (separate m frames after s)) refl) (separator_first m s)) (field_starts g _);
      }

-- The end of the text behind fields.
pub fields_end : (fields : Fields) (x : Bool) (at : ℕ) → finish (in_fields [] fields x) at ≡ Ok fields
unfolding finish all_closed
fields_end fields x at = refl

module _ (ts : List Lexeme) (fields : Fields) where
  reached : (x : Bool) → Leads unread ts (in_fields [] fields x) (length {A = Frame} []) (length {A = Frame} [] + depth_of fields) → depth_of fields ≤ 64
      → (at : ℕ) → and_then (run unread ts) (λ n. finish n at) ≡ Ok fields
  reached x (there n ran settles below) h at =
      ap (λ (o : Result Reading Fault). and_then o (λ m. finish m at)) ran ∙ finish_settled n at ∙ ap (λ (m : Reading). finish m at) settles ∙ fields_end fields x at
  reached x (deep place failed above) h at = absurd (omega arith)

  -- fields that are not too deep are read
  pub reads_form : IsFields ts fields → depth_of fields ≤ 64 → (at : ℕ) → and_then (run unread ts) (λ n. finish n at) ≡ Ok fields
  reads_form f h at = let p = fields_read f [] in reached p.after_field p.leads h at

  not_deep : (x : Bool) (n : Reading) → Leads unread ts (in_fields [] fields x) (length {A = Frame} []) (length {A = Frame} [] + depth_of fields) → run unread ts ≡ Ok n → depth_of fields ≤ 64
  not_deep x n (there m ran settles below) e = omega (arith, below (omega arith))
  not_deep x n (deep place failed above) e = absurd (cc)

  -- and only they are
  pub read_low : (n : Reading) → IsFields ts fields → run unread ts ≡ Ok n → depth_of fields ≤ 64
  read_low n f e = let p = fields_read f [] in not_deep p.after_field n p.leads e

-- A text of the form is read to its fields.
pub form_read : (text : List ℕ) (fields : Fields) → IsTextOf text fields → fields_of_text text ≡ Ok fields
unfolding read_text
form_read text fields h = ap (with_place text) (ap (read unread) (cut_is_read h.cut) ∙ run_to_end unread h.tokens h.end ∙ reads_form h.tokens fields h.form h.depth h.end)
