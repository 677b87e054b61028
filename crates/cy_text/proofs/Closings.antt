-- What was read is a prefix of a text of the form: what is open can be closed, and no message stands too deep.
use Rattle.std.proofs.Common.{ℕ, suc, ◌≡◌, ◌≤◌, nat_lt, length, List, [], ◌∷◌, ◌++◌, Bool, true, false, cond, Result, Ok, Err, refl, sym, subst, ◌∙◌, arith, append_assoc, append-nil}
use Rattle.std.proofs.lemmas.Bool.Decides.{nat_tests}
use Rattle.cy_text.specs.Fields.{Fields, Held, Nothing, Whole, Quote, Message}
use Rattle.cy_text.specs.Strings.{and_then}
use Rattle.cy_text.specs.Form.{Building, Reading, reading, begun, after_token, placed, opened, closed, same_bracket, at_field, at_message, at_value, after_name, after_colon, at_item, at_first_item, after_item, after_sign, after_value, after_string, unread}
use Rattle.cy_text.specs.Grammar.{on, none, IsFields, IsTextPrefix}
use Rattle.cy_text.specs.declared.token.Bracket.{Bracket}
use Rattle.cy_text.specs.declared.token.Bracket.TheVariants.{Brace, Angle}
use Rattle.cy_text.specs.declared.token.Token.{Token}
use Rattle.cy_text.specs.declared.token.Token.TheVariants as token
use Rattle.cy_text.specs.declared.token.Lexeme.{Lexeme}
use Rattle.cy_text.specs.declared.tree.Span.{Span}
use Rattle.cy_text.specs.declared.expected.Frame.{Frame}
use Rattle.cy_text.specs.declared.expected.Place.{Place}
use Rattle.cy_text.specs.declared.expected.Place.TheVariants as place
use Rattle.cy_text.specs.declared.expected.Slot.{Slot}
use Rattle.cy_text.specs.declared.expected.Expected.{Expected}
use Rattle.cy_text.specs.declared.expected.Expected.TheVariants as expect
use Rattle.cy_text.specs.declared.fault.Fault.{Fault}
use Rattle.cy_text.proofs.Runs.{run, run_behind}
use Rattle.cy_text.proofs.FormReads.{in_fields, close_step, read_low}
use Rattle.cy_text.proofs.Prefixes.{Prefix}
use Rattle.cy_text.proofs.PrefixSteps.{step_prefix}

-- How many messages may be open where something stands: an item of a list of messages is one more.
abbrev limit : Place → ℕ
limit place.Field = 64
limit place.Item = 64
limit place.MessageItem = 63

abbrev limit_of : Expected → ℕ
limit_of (expect.Field x) = 64
limit_of (expect.FirstItem slot) = 64
limit_of (expect.AfterName slot) = limit slot.place
limit_of (expect.AfterColon slot) = limit slot.place
limit_of (expect.Item slot) = limit slot.place
limit_of (expect.AfterItem slot) = limit slot.place
limit_of (expect.Signed slot) = limit slot.place
limit_of (expect.Strings slot bytes end) = limit slot.place

abbrev pub HasRoom : Reading → Type 0
HasRoom r = length r.building.frames ≤ limit_of r.next

abbrev Roomy : Result Reading Fault → Type 0
Roomy (Ok n) = HasRoom n
Roomy (Err f) = Unit {0}

within : (p : Place) (n : ℕ) → n ≤ limit p → n ≤ 64
within place.Field n h = h
within place.Item n h = h
within place.MessageItem n h = omega (arith, h)

one_less : (p : Place) (n : ℕ) → suc n ≤ 64 → n ≤ limit p
one_less place.Field n h = omega (arith, h)
one_less place.Item n h = omega (arith, h)
one_less place.MessageItem n h = omega (arith, h)

placed_room : (b : Building) (name : List ℕ) (start : ℕ) (p : Place) (end : ℕ) (held : Held) → length b.frames ≤ limit p → HasRoom (placed b (record { name = name; start = start; place = p }) end held)
unfolding placed
placed_room b name start place.Field end held h = h
placed_room b name start place.Item end held h = h
placed_room b name start place.MessageItem end held h = h

opened_room : (b : Building) (slot : Slot) (mark : Bracket) (at : ℕ) (room : Bool) → nat_lt (length b.frames) 64 ≡ room → Roomy (opened b slot mark at)
unfolding opened
opened_room b slot mark at true e = rw e (grind (arith, nat_tests))
opened_room b slot mark at false e = rw e tt

by_bracket : (other mark : Bracket) (n : Reading) (f : Fault) → HasRoom n → Roomy (cond (same_bracket other mark) (Ok n) (Err f))
by_bracket Brace Brace n f h = h
by_bracket Brace Angle n f h = tt
by_bracket Angle Brace n f h = tt
by_bracket Angle Angle n f h = h

closed_room : (frames : List Frame) (fields : Fields) (mark : Bracket) (at end : ℕ) → length frames ≤ 64 → Roomy (closed (record { frames = frames; fields = fields }) mark at end)
unfolding closed
closed_room [] fields mark at end h = tt
closed_room (frame ∷ frames) fields mark at end h =
    by_bracket frame.bracket mark _ _ (placed_room (record { frames = frames; fields = frame.fields }) frame.slot.name frame.slot.start frame.slot.place end (Message fields)
    (one_less frame.slot.place (length frames) h))

module _ (b : Building) (s : Span) where
  field_room : (x : Bool) (t : Token) → length b.frames ≤ 64 → Roomy (at_field b x (on s t))
  unfolding at_field
  field_room x (token.Word text) h = h
  field_room x (token.Close mark) h = closed_room b.frames b.fields mark s.start s.end h
  field_room true token.Comma h = h
  field_room true token.Semicolon h = h
  field_room x t h = tt

  message_room : (slot : Slot) (t : Token) → Roomy (at_message b slot (on s t))
  unfolding at_message
  message_room slot (token.Open mark) = opened_room b (begun slot s.start) mark s.start _ refl
  message_room slot t = tt

  value_room : (slot : Slot) (t : Token) → length b.frames ≤ limit slot.place → Roomy (at_value b slot (on s t))
  unfolding at_value
  value_room slot (token.Open mark) h = opened_room b (begun slot s.start) mark s.start _ refl
  value_room slot token.Minus h = h
  value_room slot (token.Whole size) h = placed_room b slot.name _ slot.place s.end _ h
  value_room slot (token.Literal text) h = placed_room b slot.name _ slot.place s.end _ h
  value_room slot (token.Word text) h = placed_room b slot.name _ slot.place s.end _ h
  value_room slot (token.Quote bytes) h = h
  value_room slot t h = tt

  item_room : (name : List ℕ) (start : ℕ) (p : Place) (t : Token) → length b.frames ≤ 64 → Roomy (at_item b (record { name = name; start = start; place = p }) (on s t))
  unfolding at_item
  item_room name start place.Field t h = value_room _ t h
  item_room name start place.Item t h = value_room _ t h
  item_room name start place.MessageItem t h = message_room _ t

  name_room : (slot : Slot) (t : Token) → length b.frames ≤ limit slot.place → Roomy (after_name b slot (on s t))
  unfolding after_name
  name_room slot token.Colon h = h
  name_room slot token.ListOpen h = within slot.place _ h
  name_room slot t h = message_room slot t

  colon_room : (slot : Slot) (t : Token) → length b.frames ≤ limit slot.place → Roomy (after_colon b slot (on s t))
  unfolding after_colon
  colon_room slot token.ListOpen h = within slot.place _ h
  colon_room slot t h = value_room slot t h

  first_room : (slot : Slot) (t : Token) → length b.frames ≤ 64 → Roomy (at_first_item b slot (on s t))
  unfolding at_first_item
  first_room slot token.ListClose h = h
  first_room slot t h = item_room slot.name slot.start slot.place t h

  list_room : (slot : Slot) (t : Token) → length b.frames ≤ limit slot.place → Roomy (after_item b slot (on s t))
  unfolding after_item
  list_room slot token.Comma h = h
  list_room slot token.ListClose h = within slot.place _ h
  list_room slot t h = tt

  sign_room : (slot : Slot) (t : Token) → length b.frames ≤ limit slot.place → Roomy (after_sign b slot (on s t))
  unfolding after_sign
  sign_room slot (token.Whole size) h = placed_room b slot.name slot.start slot.place s.end _ h
  sign_room slot (token.Literal text) h = placed_room b slot.name slot.start slot.place s.end _ h
  sign_room slot (token.Word text) h = placed_room b slot.name slot.start slot.place s.end _ h
  sign_room slot t h = tt

module _ (b : Building) (s : Span) where
  behind_room : (name : List ℕ) (start end : ℕ) (held : Held) (p : Place) (t : Token) → length b.frames ≤ limit p
      → Roomy (after_value (placed b (record { name = name; start = start; place = p }) end held) (on s t))
  unfolding after_value placed
  behind_room name start end held place.Field t h = field_room _ s true t h
  behind_room name start end held place.Item t h = list_room _ s _ t h
  behind_room name start end held place.MessageItem t h = list_room _ s _ t h

  string_room : (slot : Slot) (bytes : List ℕ) (end : ℕ) (t : Token) → length b.frames ≤ limit slot.place → Roomy (after_string b slot bytes end (on s t))
  unfolding after_string
  string_room slot bytes end (token.Quote other) h = h
  string_room slot bytes end t h = behind_room slot.name slot.start end (Quote bytes) slot.place t h

  room_step : (next : Expected) (t : Token) → HasRoom (reading b next) → Roomy (after_token (reading b next) (on s t))
  unfolding after_token
  room_step (expect.Field x) t h = field_room b s x t h
  room_step (expect.AfterName slot) t h = name_room b s slot t h
  room_step (expect.AfterColon slot) t h = colon_room b s slot t h
  room_step (expect.FirstItem slot) t h = first_room b s slot t h
  room_step (expect.Item slot) t h = item_room b s slot.name slot.start slot.place t (within slot.place _ h)
  room_step (expect.AfterItem slot) t h = list_room b s slot t h
  room_step (expect.Signed slot) t h = sign_room b s slot t h
  room_step (expect.Strings slot bytes end) t h = string_room slot bytes end t h

-- Tokens that are read lead to a longer prefix, with room.
pub record Stands (r : Reading) (ts : List Lexeme) : Type 0 where
  pub prefix : Prefix r ts
  pub ran : run unread ts ≡ Ok r
  pub room : HasRoom r

pub nothing_stands : Stands unread []
nothing_stands = record { prefix = none; ran = refl; room = omega arith }

pub step_stands : (r n : Reading) (ts : List Lexeme) (l : Lexeme) → Stands r ts → after_token r l ≡ Ok n → Stands n (ts ++ l ∷ [])
step_stands r n ts l h e = record {
  prefix = step_prefix r ts l n h.prefix e;
  ran = run_behind unread r ts (l ∷ []) h.ran ∙ rw e refl;
  room = subst Roomy e (room_step r.building l.span r.next l.token h.room);
}

pub run_stands : (us : List Lexeme) (r n : Reading) (ts : List Lexeme) → Stands r ts → run r us ≡ Ok n → Stands n (ts ++ us)
run_stands [] r n ts h e =
    let same : r ≡ n = cc in
    subst (λ (m : Reading). Stands m (ts ++ [])) same (subst (λ us. Stands r us) (sym (append-nil ts)) h)
run_stands (u ∷ us) r n ts h e = elim (after_token r u) as (λ o. after_token r u ≡ o → and_then o (λ m. run m us) ≡ Ok n → Stands n (ts ++ u ∷ us)) [
  | Ok m ↦ λ s d. subst (λ vs. Stands n vs) (append_assoc ts (u ∷ []) us) (run_stands us m n (ts ++ u ∷ []) (step_stands r m ts u h s) d)
  | Err f ↦ λ s d. absurd (cc)
] refl e

-- Tokens that close what is open.
record Closing (r : Reading) : Type 0 where
  tokens : List Lexeme
  fields : Fields
  after_field : Bool
  ran : run r tokens ≡ Ok (in_fields [] fields after_field)

abbrev nowhere : Span
nowhere = record { start = 0; end = 0 }

closing_by : (r n : Reading) (t : Token) → after_token r (on nowhere t) ≡ Ok n → Closing n → Closing r
closing_by r n t e c = record { tokens = on nowhere t ∷ c.tokens; fields = c.fields; after_field = c.after_field; ran = rw e c.ran }

abbrev Closes : List Frame → Type 0
Closes frames = (fields : Fields) (x : Bool) → Closing (in_fields frames fields x)

module _ (frames : List Frame) (close : Closes frames) where
  close_list : (fields : Fields) (slot : Slot) → Closing (reading (record { frames = frames; fields = fields }) (expect.AfterItem slot))
  unfolding after_token after_item
  close_list fields slot = closing_by _ (in_fields frames fields true) token.ListClose refl (close fields true)

  close_placed : (before : Fields) (name : List ℕ) (start : ℕ) (p : Place) (end : ℕ) (held : Held) → Closing (placed (record { frames = frames; fields = before }) (record { name = name; start = start; place = p }) end held)
  unfolding placed
  close_placed before name start place.Field end held = close _ true
  close_placed before name start place.Item end held = close_list _ _
  close_placed before name start place.MessageItem end held = close_list _ _

close_frames : (frames : List Frame) → Closes frames
close_frames [] fields x = record { tokens = []; fields = fields; after_field = x; ran = refl }
close_frames (frame ∷ frames) fields x =
    closing_by _ _ (token.Close frame.bracket) (close_step frames frame fields x nowhere)
    (close_placed frames (λ fs y. close_frames frames fs y) frame.fields frame.slot.name frame.slot.start frame.slot.place nowhere.end (Message fields))

module _ (b : Building) where
  close_field : Closes b.frames
  close_field = close_frames b.frames

  close_value : (slot : Slot) → Closing (reading b (expect.AfterColon slot))
  unfolding after_token after_colon at_value
  close_value slot = closing_by _ (placed b (begun slot 0) 0 (Whole false 0)) (token.Whole 0) refl (close_placed b.frames close_field b.fields slot.name _ slot.place 0 _)

  close_name : (slot : Slot) → Closing (reading b (expect.AfterName slot))
  unfolding after_token after_name
  close_name slot = closing_by _ (reading b (expect.AfterColon slot)) token.Colon refl (close_value slot)

  close_first : (slot : Slot) → Closing (reading b (expect.FirstItem slot))
  unfolding after_token at_first_item
  close_first slot = closing_by _ (in_fields b.frames b.fields true) token.ListClose refl (close_field b.fields true)

  close_message : (slot : Slot) → length b.frames ≤ 63 → after_token (reading b (expect.Item slot)) (on nowhere (token.Open Brace)) ≡ opened b (begun slot 0) Brace 0 → Closing (reading b (expect.Item slot))
  unfolding opened
  close_message slot h e =
      let room : nat_lt (length b.frames) 64 ≡ true = grind (arith, nat_tests) in
      let frame : Frame = record { fields = b.fields; slot = begun slot 0; bracket = Brace } in
      closing_by _ (in_fields (frame ∷ b.frames) Nothing false) (token.Open Brace) (e ∙ rw room refl) (close_frames (frame ∷ b.frames) Nothing false)

  close_item : (name : List ℕ) (start : ℕ) (p : Place) → length b.frames ≤ limit p → Closing (reading b (expect.Item (record { name = name; start = start; place = p })))
  unfolding after_token at_item at_value at_message
  close_item name start place.Field h = closing_by _ _ (token.Whole 0) refl (close_placed b.frames close_field b.fields name start place.Field 0 (Whole false 0))
  close_item name start place.Item h = closing_by _ _ (token.Whole 0) refl (close_placed b.frames close_field b.fields name 0 place.Item 0 (Whole false 0))
  close_item name start place.MessageItem h = close_message _ h refl

  close_sign : (slot : Slot) → Closing (reading b (expect.Signed slot))
  unfolding after_token after_sign
  close_sign slot = closing_by _ _ (token.Whole 0) refl (close_placed b.frames close_field b.fields slot.name slot.start slot.place 0 (Whole true 0))

  close_string : (name : List ℕ) (start : ℕ) (p : Place) (bytes : List ℕ) (end : ℕ) → Closing (reading b (expect.Strings (record { name = name; start = start; place = p }) bytes end))
  unfolding after_token after_string after_value placed at_field after_item
  close_string name start place.Field bytes end = closing_by _ (in_fields b.frames _ false) token.Comma refl (close_field _ false)
  close_string name start place.Item bytes end = closing_by _ (in_fields b.frames _ true) token.ListClose refl (close_field _ true)
  close_string name start place.MessageItem bytes end = closing_by _ (in_fields b.frames _ true) token.ListClose refl (close_field _ true)

  closing : (next : Expected) → HasRoom (reading b next) → Closing (reading b next)
  closing (expect.Field x) h = close_field b.fields x
  closing (expect.AfterName slot) h = close_name slot
  closing (expect.AfterColon slot) h = close_value slot
  closing (expect.FirstItem slot) h = close_first slot
  closing (expect.Item slot) h = close_item slot.name slot.start slot.place h
  closing (expect.AfterItem slot) h = close_list b.frames close_field b.fields slot
  closing (expect.Signed slot) h = close_sign slot
  closing (expect.Strings slot bytes end) h = close_string slot.name slot.start slot.place bytes end

are_fields : (fields : Fields) (x : Bool) (ts : List Lexeme) → Prefix (in_fields [] fields x) ts → IsFields ts fields
are_fields fields true ts h = h.now
are_fields fields false ts h = h

-- What stands is a prefix of a text of the form.
pub stands_prefix : (r : Reading) (ts : List Lexeme) → Stands r ts → IsTextPrefix ts
stands_prefix r ts h =
    let c : Closing r = closing r.building r.next h.room in
    let n : Reading = in_fields [] c.fields c.after_field in
    let all : Stands n (ts ++ c.tokens) = run_stands c.tokens r n ts h c.ran in
    let form : IsFields (ts ++ c.tokens) c.fields = are_fields c.fields c.after_field _ all.prefix in
    record { rest = c.tokens; fields = c.fields; form = form; depth = read_low (ts ++ c.tokens) c.fields n form all.ran }
