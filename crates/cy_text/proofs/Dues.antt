-- What is due behind tokens that were read.
use Rattle.std.proofs.Common.{ℕ, ◌≡◌, List, [], ◌∷◌, ◌++◌, Bool, Result, Ok, Err, refl, ap, sym, subst, ◌∙◌, append_assoc}
use Rattle.cy_text.specs.Fields.{Held}
use Rattle.cy_text.specs.Strings.{and_then}
use Rattle.cy_text.specs.Form.{Building, Reading, reading, after_token, placed, at_field, at_message, at_value, after_name, after_colon, at_item, at_first_item, after_item, after_sign, after_value, after_string, unread}
use Rattle.cy_text.specs.Grammar.{on, IsFields, IsPrefix, IsTextPrefix}
use Rattle.cy_text.specs.Kinds.{MessageMayFollow, Due, a_name, a_value, a_message, a_list_mark, IsDue, is_name, is_value, is_message, is_list_mark}
use Rattle.cy_text.specs.declared.token.Bracket.{Bracket}
use Rattle.cy_text.specs.declared.token.Token.TheVariants as token
use Rattle.cy_text.specs.declared.token.Lexeme.{Lexeme}
use Rattle.cy_text.specs.declared.tree.Span.{Span}
use Rattle.cy_text.specs.declared.expected.Place.{Place}
use Rattle.cy_text.specs.declared.expected.Place.TheVariants as place
use Rattle.cy_text.specs.declared.expected.Slot.{Slot}
use Rattle.cy_text.specs.declared.expected.Expected.{Expected}
use Rattle.cy_text.specs.declared.expected.Expected.TheVariants as expect
use Rattle.cy_text.specs.declared.error.BadKind.{BadKind}
use Rattle.cy_text.specs.declared.fault.Fault.{Fault}
use Rattle.cy_text.specs.declared.fault.Fault.TheVariants.{Bad, TooDeep}
use Rattle.cy_text.proofs.Runs.{run, run_append, run_behind, Leads, there, deep}
use Rattle.cy_text.proofs.FormReads.{fields_read}
use Rattle.cy_text.proofs.Closings.{Stands, run_stands, stands_prefix}

-- What is due by what is expected.
abbrev pub item_due : Place → Due
item_due place.Field = a_value
item_due place.Item = a_value
item_due place.MessageItem = a_message

abbrev pub due_behind : Place → Due
due_behind place.Field = a_name
due_behind place.Item = a_list_mark
due_behind place.MessageItem = a_list_mark

abbrev pub due_at : Expected → Due
due_at (expect.Field x) = a_name
due_at (expect.AfterName slot) = a_message
due_at (expect.AfterColon slot) = a_value
due_at (expect.FirstItem slot) = item_due slot.place
due_at (expect.Item slot) = item_due slot.place
due_at (expect.AfterItem slot) = a_list_mark
due_at (expect.Signed slot) = a_value
due_at (expect.Strings slot bytes end) = due_behind slot.place

-- Tokens are read, or one of them stands in a wrong place.
abbrev Goes : Result Reading Fault → Type 0
Goes (Ok n) = Unit {0}
Goes (Err f) = ⊥

abbrev Fails : Result Reading Fault → Type 0
Fails (Ok n) = ⊥
Fails (Err (Bad kind at)) = Unit {0}
Fails (Err (TooDeep at)) = ⊥

abbrev name_tokens : List ℕ → Span → Span → List Lexeme
name_tokens text s c = on s (token.Word text) ∷ on c token.Colon ∷ []

module _ (r : Reading) where
  abbrev NameFails : Type 0
  NameFails = (text : List ℕ) (s c : Span) → Fails (run r (name_tokens text s c))

  abbrev NumberFails : Type 0
  NumberFails = (size : ℕ) (s : Span) → Fails (run r (on s (token.Whole size) ∷ []))

  abbrev MessageFails : Type 0
  MessageFails = (mark : Bracket) (s : Span) → Fails (run r (on s (token.Open mark) ∷ []))

  abbrev CommaFails : Type 0
  CommaFails = (s : Span) → Fails (run r (on s token.Comma ∷ []))

  -- What is due, by what is read and what fails.
  abbrev Told : Due → Type 0
  Told a_name = ((s : Span) → Goes (run r (name_tokens [] s s))) × NumberFails × MessageFails
  Told a_value = ((s : Span) → Goes (run r (on s (token.Whole 0) ∷ []))) × NameFails × CommaFails
  Told a_message = NameFails × NumberFails × CommaFails
  Told a_list_mark = ((s : Span) → Goes (run r (on s token.Comma ∷ []))) × NameFails × NumberFails × MessageFails

colon_fails : (b : Building) (text : List ℕ) (start : ℕ) (p : Place) (end : ℕ) (held : Held) (c : Span) → Fails (run (placed b (record { name = text; start = start; place = p }) end held) (on c token.Colon ∷ []))
unfolding placed after_token at_field after_item
colon_fails b text start place.Field end held c = tt
colon_fails b text start place.Item end held c = tt
colon_fails b text start place.MessageItem end held c = tt

module _ (b : Building) where
  field_told : (x : Bool) → Told (reading b (expect.Field x)) a_name
  unfolding after_token at_field after_name
  field_told x = (λ s. tt, λ size s. tt, λ mark s. tt)

  name_told : (slot : Slot) → Told (reading b (expect.AfterName slot)) a_message
  unfolding after_token after_name at_message
  name_told slot = (λ text s c. tt, λ size s. tt, λ s. tt)

  colon_told : (slot : Slot) → Told (reading b (expect.AfterColon slot)) a_value
  unfolding after_token after_colon at_value
  colon_told slot = (λ s. tt, λ text s c. colon_fails b slot.name _ slot.place s.end _ c, λ s. tt)

  item_told : (text : List ℕ) (start : ℕ) (p : Place) → Told (reading b (expect.Item (record { name = text; start = start; place = p }))) (item_due p)
  unfolding after_token at_item at_value at_message
  item_told text start place.Field = (λ s. tt, λ word s c. colon_fails b text start place.Field s.end _ c, λ s. tt)
  item_told text start place.Item = (λ s. tt, λ word s c. colon_fails b text s.start place.Item s.end _ c, λ s. tt)
  item_told text start place.MessageItem = (λ word s c. tt, λ size s. tt, λ s. tt)

  first_told : (text : List ℕ) (start : ℕ) (p : Place) → Told (reading b (expect.FirstItem (record { name = text; start = start; place = p }))) (item_due p)
  unfolding after_token at_first_item at_item at_value at_message
  first_told text start place.Field = (λ s. tt, λ word s c. colon_fails b text start place.Field s.end _ c, λ s. tt)
  first_told text start place.Item = (λ s. tt, λ word s c. colon_fails b text s.start place.Item s.end _ c, λ s. tt)
  first_told text start place.MessageItem = (λ word s c. tt, λ size s. tt, λ s. tt)

  list_told : (slot : Slot) → Told (reading b (expect.AfterItem slot)) a_list_mark
  unfolding after_token after_item
  list_told slot = (λ s. tt, λ text s c. tt, λ size s. tt, λ mark s. tt)

  sign_told : (slot : Slot) → Told (reading b (expect.Signed slot)) a_value
  unfolding after_token after_sign
  sign_told slot = (λ s. tt, λ text s c. colon_fails b slot.name slot.start slot.place s.end _ c, λ s. tt)

  string_told : (text : List ℕ) (start : ℕ) (p : Place) (bytes : List ℕ) (end : ℕ) → Told (reading b (expect.Strings (record { name = text; start = start; place = p }) bytes end)) (due_behind p)
  unfolding after_token after_string after_value placed at_field after_name after_item
  string_told text start place.Field bytes end = (λ s. tt, λ size s. tt, λ mark s. tt)
  string_told text start place.Item bytes end = (λ s. tt, λ word s c. tt, λ size s. tt, λ mark s. tt)
  string_told text start place.MessageItem bytes end = (λ s. tt, λ word s c. tt, λ size s. tt, λ mark s. tt)

  told : (next : Expected) → Told (reading b next) (due_at next)
  told (expect.Field x) = field_told x
  told (expect.AfterName slot) = name_told slot
  told (expect.AfterColon slot) = colon_told slot
  told (expect.FirstItem slot) = first_told slot.name slot.start slot.place
  told (expect.Item slot) = item_told slot.name slot.start slot.place
  told (expect.AfterItem slot) = list_told slot
  told (expect.Signed slot) = sign_told slot
  told (expect.Strings slot bytes end) = string_told slot.name slot.start slot.place bytes end

no_way : {r s : Reading} {ts : List Lexeme} {d e : ℕ} → Leads r ts s d e → Fails (run r ts) → ⊥
no_way (there n ran settles below) f = subst Fails ran f
no_way (deep at failed above) f = subst Fails failed f

fails_more : (o : Result Reading Fault) (us : List Lexeme) → Fails o → Fails (and_then o (λ n. run n us))
fails_more (Ok n) us f = absurd f
fails_more (Err fault) us f = f

pub any_text_prefix : {ts : List Lexeme} → IsTextPrefix ts → IsPrefix ts
any_text_prefix f = record { rest = f.rest; fields = f.fields; form = f.form }

nowhere : Span
nowhere = record { start = 0; end = 0 }

-- A message may follow where it is due.
abbrev pub MayOpen : List Lexeme → Due → Type 0
MayOpen ts a_message = MessageMayFollow ts
MayOpen ts due = Unit {0}

module _ (r : Reading) (ts : List Lexeme) (h : Stands r ts) where
  -- Tokens of which one fails may not follow.
  pub may_not : (us : List Lexeme) → Fails (run r us) → IsPrefix (ts ++ us) → ⊥
  may_not us f p =
      let all : IsFields (ts ++ (us ++ p.rest)) p.fields = rw append_assoc at p.form in
      no_way (fields_read all []).leads (subst Fails (sym (run_behind unread r ts (us ++ p.rest) h.ran ∙ run_append r us p.rest)) (fails_more (run r us) p.rest f))

  pub misplaced : (l : Lexeme) (its : BadKind) (at : ℕ) → after_token r l ≡ Err (Bad its at) → IsPrefix (ts ++ l ∷ []) → ⊥
  misplaced l its at e = may_not (l ∷ []) (subst Fails (sym (ap (λ (o : Result Reading Fault). and_then o (λ n. run n [])) e)) tt)

  -- Tokens that are read may.
  pub may : (us : List Lexeme) → Goes (run r us) → IsPrefix (ts ++ us)
  may us g = elim (run r us) as (λ o. run r us ≡ o → Goes o → IsPrefix (ts ++ us)) [
    | Ok n ↦ λ e f. any_text_prefix (stands_prefix n (ts ++ us) (run_stands us r n ts h e))
    | Err fault ↦ λ e f. absurd f
  ] refl g

  is_due_of : (due : Due) → Told r due → MayOpen ts due → IsDue ts due
  is_due_of a_name t m = is_name ([], nowhere, nowhere, may (name_tokens [] nowhere nowhere) (t.0 nowhere))
  is_due_of a_value t m = is_value (0, nowhere, may (on nowhere (token.Whole 0) ∷ []) (t.0 nowhere))
  is_due_of a_message t m = is_message m (λ n. may_not (on n.1 (token.Whole n.0) ∷ []) (t.1 n.0 n.1) n.2)
  is_due_of a_list_mark t m = is_list_mark (nowhere, may (on nowhere token.Comma ∷ []) (t.0 nowhere)) (λ n. may_not (name_tokens n.0 n.1 n.2) (t.1 n.0 n.1 n.2) n.3)

  pub is_due : MayOpen ts (due_at r.next) → IsDue ts (due_at r.next)
  is_due m = is_due_of (due_at r.next) (told r.building r.next) m

  -- Nothing else is due.
  one_of : (due : Due) → Told r due → (other : Due) → IsDue ts other → other ≡ due
  one_of a_name t a_name d = refl
  one_of a_name t a_value (is_value n) = absurd (may_not (on n.1 (token.Whole n.0) ∷ []) (t.1 n.0 n.1) n.2)
  one_of a_name t a_message (is_message m never) = absurd (may_not (on m.1 (token.Open m.0) ∷ []) (t.2 m.0 m.1) m.2)
  one_of a_name t a_list_mark (is_list_mark c never) = absurd (never ([], nowhere, nowhere, may (name_tokens [] nowhere nowhere) (t.0 nowhere)))
  one_of a_value t a_value d = refl
  one_of a_value t a_name (is_name n) = absurd (may_not (name_tokens n.0 n.1 n.2) (t.1 n.0 n.1 n.2) n.3)
  one_of a_value t a_message (is_message m never) = absurd (never (0, nowhere, may (on nowhere (token.Whole 0) ∷ []) (t.0 nowhere)))
  one_of a_value t a_list_mark (is_list_mark c never) = absurd (may_not (on c.0 token.Comma ∷ []) (t.2 c.0) c.1)
  one_of a_message t a_message d = refl
  one_of a_message t a_name (is_name n) = absurd (may_not (name_tokens n.0 n.1 n.2) (t.0 n.0 n.1 n.2) n.3)
  one_of a_message t a_value (is_value n) = absurd (may_not (on n.1 (token.Whole n.0) ∷ []) (t.1 n.0 n.1) n.2)
  one_of a_message t a_list_mark (is_list_mark c never) = absurd (may_not (on c.0 token.Comma ∷ []) (t.2 c.0) c.1)
  one_of a_list_mark t a_list_mark d = refl
  one_of a_list_mark t a_name (is_name n) = absurd (may_not (name_tokens n.0 n.1 n.2) (t.1 n.0 n.1 n.2) n.3)
  one_of a_list_mark t a_value (is_value n) = absurd (may_not (on n.1 (token.Whole n.0) ∷ []) (t.2 n.0 n.1) n.2)
  one_of a_list_mark t a_message (is_message m never) = absurd (may_not (on m.1 (token.Open m.0) ∷ []) (t.3 m.0 m.1) m.2)

  pub one_due : (other : Due) → IsDue ts other → other ≡ due_at r.next
  one_due other d = one_of (due_at r.next) (told r.building r.next) other d
