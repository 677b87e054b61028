-- A text is refused at its first fault.
use Rattle.std.proofs.Common.{ℕ, ◌≡◌, ◌<◌, ◌+◌, nat_lt, length, List, [], ◌∷◌, ◌++◌, Bool, true, false, cond, Result, Ok, Err, inl, inr, refl, ap, sym, subst, ◌∙◌, arith, append_assoc, append-nil}
use Rattle.cy_msg.specs.Answer.{AnswersOr}
use Rattle.cy_text.specs.Fields.{Fields, Held, Nothing, Quote, Message}
use Rattle.cy_text.specs.Strings.{and_then}
use Rattle.cy_text.specs.Tokens.{Tokens, Next, End, Faulty, tokens_of}
use Rattle.cy_text.specs.Form.{Building, Reading, reading, begun, after_token, placed, opened, closed, same_bracket, at_field, at_message, at_value, after_name, after_colon, at_item, at_first_item, after_item, after_sign, after_value, after_string, all_closed, ends_value, finish, read, read_text, unread}
use Rattle.cy_text.specs.Grammar.{on, followed, depth_of, IsFields, IsPrefix, IsTextPrefix, none}
use Rattle.cy_text.specs.Grammar as grammar
use Rattle.cy_text.specs.Kinds.{MessageMayFollow, Due, a_name, a_value, a_message, a_list_mark, IsDue, kind_of, kind_at_end, IsKindOf, IsKindAtEnd}
use Rattle.cy_text.specs.FirstFault.{IsFirstFault, in_itself, out_of_place, too_deep, at_end, HasFirstFault, IsParsed, tree, no_memory, HasOneAnswer, one_tree, one_fault}
use Rattle.cy_text.specs.FirstFault as first
use Rattle.cy_text.specs.Places.{with_place, error_of, fields_of_text}
use Rattle.cy_text.specs.declared.token.Bracket.{Bracket}
use Rattle.cy_text.specs.declared.token.Bracket.TheVariants.{Brace, Angle}
use Rattle.cy_text.specs.declared.token.Token.{Token}
use Rattle.cy_text.specs.declared.token.Token.TheVariants as token
use Rattle.cy_text.specs.declared.token.Lexeme.{Lexeme}
use Rattle.cy_text.specs.declared.tree.Span.{Span}
use Rattle.cy_text.specs.declared.expected.Frame.{Frame}
use Rattle.cy_text.specs.declared.expected.Place.{Place}
use Rattle.cy_text.specs.declared.expected.Place.TheVariants as place
use Rattle.cy_text.specs.declared.expected.Slot.{Slot}
use Rattle.cy_text.specs.declared.expected.Expected.{Expected}
use Rattle.cy_text.specs.declared.expected.Expected.TheVariants as expect
use Rattle.cy_text.specs.declared.error.TextError.{TextError}
use Rattle.cy_text.specs.declared.error.TextError.TheVariants.{Memory}
use Rattle.cy_text.specs.declared.error.BadKind.{BadKind}
use Rattle.cy_text.specs.declared.error.BadKind.TheVariants as kind
use Rattle.cy_text.specs.declared.fault.Fault.{Fault}
use Rattle.cy_text.specs.declared.fault.Fault.TheVariants.{Bad, TooDeep}
use Rattle.cy_text.proofs.Runs.{run, run_append, run_behind, settled, finish_settled, Leads, there, deep}
use Rattle.cy_text.proofs.FormReads.{in_fields, fields_read, fields_end, reads_form, form_read}
use Rattle.cy_text.proofs.Prefixes.{InList, Behind, Awaits, Inside, item_place, PrefixOf}
use Rattle.cy_text.proofs.PrefixSteps.{item_is, first_awaits}
use Rattle.cy_text.proofs.FormOnly.{followed_more, finish_form, read_form, refused}
use Rattle.cy_text.proofs.Closings.{Stands, nothing_stands, step_stands, run_stands, stands_prefix}
use Rattle.cy_text.proofs.Dues.{item_due, due_behind, due_at, MayOpen, is_due, one_due, any_text_prefix, misplaced}
use Rattle.cy_text.proofs.CutText.{cut_is_read, read_is_cut}

-- Tokens in front of a prefix of a text are one.
shorter : (ts us : List Lexeme) → IsPrefix (ts ++ us) → IsPrefix ts
shorter ts us f = record { rest = us ++ f.rest; fields = f.fields; form = rw append_assoc at f.form }

-- Where something stands that antt wants named.
nowhere : Span
nowhere = record { start = 0; end = 0 }

-- What is open can be closed.
module _ (inside : Fields → List Lexeme → Type 0) (prefix : (fields : Fields) (ts : List Lexeme) → inside fields ts → IsPrefix ts) where
  list_prefix : (colon : Bool) (name : List ℕ) (fields : Fields) (ts : List Lexeme) → InList inside colon name fields ts → IsPrefix ts
  list_prefix colon name fields ts h =
      let closed_list = h.close h.items fields nowhere h.are in
      subst IsPrefix (sym h.tokens) (shorter (h.prefix ++ h.items) (on nowhere token.ListClose ∷ []) (rw append_assoc (prefix fields _ closed_list.now)))

  at_place : (name : List ℕ) (start : ℕ) (p : Place) (fields : Fields) (ts : List Lexeme) → Behind inside (record { name = name; start = start; place = p }) fields ts → IsPrefix ts
  at_place name start place.Field fields ts h = prefix fields ts h.now
  at_place name start place.Item fields ts h = list_prefix true name fields ts h
  at_place name start place.MessageItem fields ts h = list_prefix false name fields ts h

  behind_prefix : (slot : Slot) (fields : Fields) (ts : List Lexeme) → Behind inside slot fields ts → IsPrefix ts
  behind_prefix slot fields ts h = at_place slot.name slot.start slot.place fields ts h

  -- a message may follow
  awaits_prefix : (colon : Bool) (slot : Slot) (fields : Fields) (ts : List Lexeme) (mark : Bracket) (s : Span) → Awaits inside colon slot fields ts → IsPrefix (ts ++ on s (token.Open mark) ∷ [])
  awaits_prefix colon slot fields ts mark s h =
      shorter (ts ++ on s (token.Open mark) ∷ []) (on nowhere (token.Close mark) ∷ []) (rw append_assoc (behind_prefix slot _ _
      (h (on s (token.Open mark) ∷ on nowhere (token.Close mark) ∷ []) (Message Nothing) (grammar.message mark s nowhere none))))

inside_prefix : (frames : List Frame) (fields : Fields) (ts : List Lexeme) → Inside frames fields ts → IsPrefix ts
inside_prefix [] fields ts f = record { rest = []; fields = fields; form = rw append-nil f }
inside_prefix (frame ∷ frames) fields ts w =
    let closed_message = w.close w.inner fields nowhere w.are in
    subst IsPrefix (sym w.tokens) (shorter (w.prefix ++ w.inner) (on nowhere (token.Close frame.bracket) ∷ [])
    (rw append_assoc (behind_prefix (Inside frames) (λ fs us h. inside_prefix frames fs us h) frame.slot _ _ closed_message)))

module _ (b : Building) (ts : List Lexeme) where
  value_prefix : (colon : Bool) (slot : Slot) (mark : Bracket) (s : Span) → Awaits (Inside b.frames) colon slot b.fields ts → IsPrefix (ts ++ on s (token.Open mark) ∷ [])
  value_prefix colon slot mark s h = awaits_prefix (Inside b.frames) (inside_prefix b.frames) colon slot b.fields ts mark s h

  -- A token is refused for its place, by the kind of what is due there, or for its depth, where it may stand but for that.
  abbrev Refusal : Due → Token → Span → Result Reading Fault → Type 0
  Refusal due t s (Ok n) = Unit {0}
  Refusal due t s (Err (Bad kind at)) = (at ≡ s.start) × (kind ≡ kind_of due t)
  Refusal due t s (Err (TooDeep at)) = (at ≡ s.start) × IsPrefix (ts ++ on s t ∷ [])

  module _ (s : Span) where
    room_refusal : (due : Due) (t : Token) (room : Bool) (n : Reading) → IsPrefix (ts ++ on s t ∷ []) → Refusal due t s (cond room (Ok n) (Err (TooDeep s.start)))
    room_refusal due t true n f = tt
    room_refusal due t false n f = (refl, f)

    opened_refusal : (due : Due) (colon : Bool) (slot : Slot) (mark : Bracket) → Awaits (Inside b.frames) colon slot b.fields ts → Refusal due (token.Open mark) s (opened b (begun slot s.start) mark s.start)
    unfolding opened
    opened_refusal due colon slot mark h = room_refusal due (token.Open mark) (nat_lt (length b.frames) 64) _ (value_prefix colon slot mark s h)

    message_refusal : (colon : Bool) (slot : Slot) (t : Token) → Awaits (Inside b.frames) colon slot b.fields ts → Refusal a_message t s (at_message b slot (on s t))
    unfolding at_message
    message_refusal colon slot (token.Open mark) h = opened_refusal a_message colon slot mark h
    message_refusal colon slot t h = (refl, refl)

    value_refusal : (slot : Slot) (t : Token) → Awaits (Inside b.frames) true slot b.fields ts → Refusal a_value t s (at_value b slot (on s t))
    unfolding at_value
    value_refusal slot (token.Open mark) h = opened_refusal a_value true slot mark h
    value_refusal slot token.Minus h = tt
    value_refusal slot (token.Whole size) h = tt
    value_refusal slot (token.Literal text) h = tt
    value_refusal slot (token.Word text) h = tt
    value_refusal slot (token.Quote bytes) h = tt
    value_refusal slot t h = (refl, refl)

    item_refusal : (colon : Bool) (slot : Slot) (t : Token) → slot.place ≡ item_place colon → Awaits (Inside b.frames) colon slot b.fields ts → Refusal (item_due slot.place) t s (at_item b slot (on s t))
    item_refusal true slot t p h =
        subst (λ (q : Place). Refusal (item_due q) t s (at_item b slot (on s t))) (sym p) (subst (Refusal a_value t s) (sym (item_is b slot (on s t) true p)) (value_refusal slot t h))
    item_refusal false slot t p h =
        subst (λ (q : Place). Refusal (item_due q) t s (at_item b slot (on s t))) (sym p) (subst (Refusal a_message t s) (sym (item_is b slot (on s t) false p)) (message_refusal false slot t h))

    by_bracket : (other mark : Bracket) (n : Reading) → Refusal a_name (token.Close mark) s (cond (same_bracket other mark) (Ok n) (Err (Bad kind.Close s.start)))
    by_bracket Brace Brace n = tt
    by_bracket Brace Angle n = (refl, refl)
    by_bracket Angle Brace n = (refl, refl)
    by_bracket Angle Angle n = tt

    closed_refusal : (frames : List Frame) (fields : Fields) (mark : Bracket) → Refusal a_name (token.Close mark) s (closed (record { frames = frames; fields = fields }) mark s.start s.end)
    unfolding closed
    closed_refusal [] fields mark = (refl, refl)
    closed_refusal (frame ∷ frames) fields mark = by_bracket frame.bracket mark _

    field_refusal : (x : Bool) (t : Token) → Refusal a_name t s (at_field b x (on s t))
    unfolding at_field
    field_refusal x (token.Word text) = tt
    field_refusal x (token.Close mark) = closed_refusal b.frames b.fields mark
    field_refusal true token.Comma = tt
    field_refusal true token.Semicolon = tt
    field_refusal x t = (refl, refl)

    name_refusal : (slot : Slot) (t : Token) → PrefixOf b (expect.AfterName slot) ts → Refusal a_message t s (after_name b slot (on s t))
    unfolding after_name
    name_refusal slot token.Colon h = tt
    name_refusal slot token.ListOpen h = tt
    name_refusal slot t h = message_refusal false slot t h.1.value

    colon_refusal : (slot : Slot) (t : Token) → PrefixOf b (expect.AfterColon slot) ts → Refusal a_value t s (after_colon b slot (on s t))
    unfolding after_colon
    colon_refusal slot token.ListOpen h = tt
    colon_refusal slot t h = value_refusal slot t h.1.value

    first_refusal : (slot : Slot) (t : Token) → PrefixOf b (expect.FirstItem slot) ts → Refusal (item_due slot.place) t s (at_first_item b slot (on s t))
    unfolding at_first_item
    first_refusal slot token.ListClose h = tt
    first_refusal slot t h = item_refusal h.0 slot t h.1 (first_awaits b ts s unread h.0 slot h.1 h.2)

    list_refusal : (slot : Slot) (t : Token) → Refusal a_list_mark t s (after_item b slot (on s t))
    unfolding after_item
    list_refusal slot token.Comma = tt
    list_refusal slot token.ListClose = tt
    list_refusal slot t = (refl, refl)

    sign_refusal : (slot : Slot) (t : Token) → Refusal a_value t s (after_sign b slot (on s t))
    unfolding after_sign
    sign_refusal slot (token.Whole size) = tt
    sign_refusal slot (token.Literal text) = tt
    sign_refusal slot (token.Word text) = tt
    sign_refusal slot t = (refl, refl)

  -- A message may follow where it is due.
  due_opens : (due : Due) → MessageMayFollow ts → MayOpen ts due
  due_opens a_message m = m
  due_opens due m = tt

  behind_opens : (p : Place) → MayOpen ts (due_behind p)
  behind_opens place.Field = tt
  behind_opens place.Item = tt
  behind_opens place.MessageItem = tt

  may_open : (next : Expected) → PrefixOf b next ts → MayOpen ts (due_at next)
  may_open (expect.AfterName slot) h = (Brace, nowhere, value_prefix false slot Brace nowhere h.1.value)
  may_open (expect.FirstItem slot) h = due_opens (item_due slot.place) (Brace, nowhere, value_prefix h.0 slot Brace nowhere (first_awaits b ts nowhere unread h.0 slot h.1 h.2))
  may_open (expect.Item slot) h = due_opens (item_due slot.place) (Brace, nowhere, value_prefix h.0 slot Brace nowhere h.2)
  may_open (expect.Strings slot bytes end) h = behind_opens slot.place
  may_open next h = tt

module _ (b : Building) (ts : List Lexeme) (s : Span) where
  behind_refusal : (text : List ℕ) (start end : ℕ) (held : Held) (p : Place) (t : Token)
      → Refusal b ts (due_behind p) t s (after_value (placed b (record { name = text; start = start; place = p }) end held) (on s t))
  unfolding after_value placed
  behind_refusal text start end held place.Field t = field_refusal _ ts s true t
  behind_refusal text start end held place.Item t = list_refusal _ ts s _ t
  behind_refusal text start end held place.MessageItem t = list_refusal _ ts s _ t

  string_refusal : (slot : Slot) (bytes : List ℕ) (end : ℕ) (t : Token) → Refusal b ts (due_behind slot.place) t s (after_string b slot bytes end (on s t))
  unfolding after_string
  string_refusal slot bytes end (token.Quote other) = tt
  string_refusal slot bytes end t = behind_refusal slot.name slot.start end (Quote bytes) slot.place t

  step_refusal : (next : Expected) (t : Token) → PrefixOf b next ts → Refusal b ts (due_at next) t s (after_token (reading b next) (on s t))
  unfolding after_token
  step_refusal (expect.Field x) t h = field_refusal b ts s x t
  step_refusal (expect.AfterName slot) t h = name_refusal b ts s slot t h
  step_refusal (expect.AfterColon slot) t h = colon_refusal b ts s slot t h
  step_refusal (expect.FirstItem slot) t h = first_refusal b ts s slot t h
  step_refusal (expect.Item slot) t h = item_refusal b ts s h.0 slot t h.1 h.2
  step_refusal (expect.AfterItem slot) t h = list_refusal b ts s slot t
  step_refusal (expect.Signed slot) t h = sign_refusal b ts s slot t
  step_refusal (expect.Strings slot bytes end) t h = string_refusal slot bytes end t

-- The end of the text is refused for its place, by the kind of what is due there.
abbrev EndRefusal : Due → ℕ → Result Fields Fault → Type 0
EndRefusal due start (Ok fields) = Unit {0}
EndRefusal due start (Err (Bad kind at)) = (at ≡ start) × (kind ≡ kind_at_end due)
EndRefusal due start (Err (TooDeep at)) = ⊥

module _ (at : ℕ) where
  open_refusal : (frames : List Frame) (fields : Fields) → EndRefusal a_name at (all_closed (record { frames = frames; fields = fields }) at)
  unfolding all_closed
  open_refusal [] fields = tt
  open_refusal (frame ∷ frames) fields = (refl, refl)

  quote_refusal : (b : Building) (text : List ℕ) (start end : ℕ) (held : Held) (p : Place) → EndRefusal (due_behind p) at (ends_value (placed b (record { name = text; start = start; place = p }) end held) at)
  unfolding ends_value placed
  quote_refusal b text start end held place.Field = open_refusal b.frames _
  quote_refusal b text start end held place.Item = (refl, refl)
  quote_refusal b text start end held place.MessageItem = (refl, refl)

  no_item : (p : Place) → EndRefusal (item_due p) at (Err (Bad kind.Value at))
  no_item place.Field = (refl, refl)
  no_item place.Item = (refl, refl)
  no_item place.MessageItem = (refl, refl)

  end_refusal : (b : Building) (next : Expected) → EndRefusal (due_at next) at (finish (reading b next) at)
  unfolding finish
  end_refusal b (expect.Field x) = open_refusal b.frames b.fields
  end_refusal b (expect.FirstItem slot) = no_item slot.place
  end_refusal b (expect.Item slot) = no_item slot.place
  end_refusal b (expect.Strings slot bytes end) = quote_refusal b slot.name slot.start end (Quote bytes) slot.place
  end_refusal b next = (refl, refl)

-- A token that fails where it stands does so whatever follows it.
fails_on : (r : Reading) (ts : List Lexeme) (l : Lexeme) (more : List Lexeme) (fault : Fault) → run unread ts ≡ Ok r → after_token r l ≡ Err fault → run unread (ts ++ l ∷ more) ≡ Err fault
fails_on r ts l more fault ran e = run_behind unread r ts (l ∷ more) ran ∙ ap (λ (o : Result Reading Fault). and_then o (λ n. run n more)) e

must_be_deep : {r s : Reading} {ts : List Lexeme} {d e at : ℕ} → Leads r ts s d e → run r ts ≡ Err (TooDeep at) → 64 < e
must_be_deep (there n ran settles below) f = absurd (cc)
must_be_deep (deep at failed above) f = above

deep_in_all : (r : Reading) (ts : List Lexeme) (l : Lexeme) (at : ℕ) → run unread ts ≡ Ok r → after_token r l ≡ Err (TooDeep at) → (more : List Lexeme) (fields : Fields) → IsFields (ts ++ l ∷ more) fields → 64 < depth_of fields
deep_in_all r ts l at ran e more fields f =
    let above : 64 < length {A = Frame} [] + depth_of fields = must_be_deep (fields_read f []).leads (fails_on r ts l more (TooDeep at) ran e) in
    omega (arith, above)

ends_here : {ts : List Lexeme} {d e : ℕ} (r : Reading) (fields : Fields) (x : Bool) (at : ℕ) (fault : Fault) → Leads unread ts (in_fields [] fields x) d e → run unread ts ≡ Ok r → finish r at ≡ Err fault → ⊥
ends_here r fields x at fault (there n ran settles below) f e =
    let same : n ≡ r = cc in
    let done : finish r at ≡ Ok fields = finish_settled r at ∙ ap (λ (m : Reading). finish m at) (ap settled (sym same) ∙ settles) ∙ fields_end fields x at in
    cc
ends_here r fields x at fault (deep place failed above) f e = cc

-- A token that fails for its depth makes no text of the form.
no_text : (r : Reading) (ts : List Lexeme) (l : Lexeme) (at : ℕ) → run unread ts ≡ Ok r → after_token r l ≡ Err (TooDeep at) → IsTextPrefix (ts ++ l ∷ []) → ⊥
no_text r ts l at ran e p =
    let deep_fields : 64 < depth_of p.fields = deep_in_all r ts l at ran e p.rest p.fields (rw append_assoc at p.form) in
    omega (arith, deep_fields, p.depth)

module _ (r : Reading) (ts : List Lexeme) (h : Stands r ts) where
  due : IsDue ts (due_at r.next)
  due = is_due r ts h (may_open r.building ts r.next h.prefix)

  refusal : (l : Lexeme) → Refusal r.building ts (due_at r.next) l.token l.span (after_token r l)
  refusal l = step_refusal r.building ts l.span r.next l.token h.prefix

  -- where a kind is what is due's, it is the one of the fault
  same_kind : (l : Lexeme) (its other : BadKind) → its ≡ kind_of (due_at r.next) l.token → IsKindOf ts l.token other → its ≡ other
  same_kind l its other e k = e ∙ ap (λ (d : Due). kind_of d l.token) (sym (one_due r ts h k.due k.is)) ∙ sym k.kind

  same_end : (its other : BadKind) → its ≡ kind_at_end (due_at r.next) → IsKindAtEnd ts other → its ≡ other
  same_end its other e k = e ∙ ap kind_at_end (sym (one_due r ts h k.due k.is)) ∙ sym k.kind

module _ (whole_text : Tokens) where
  refused_at : (r : Reading) (ts : List Lexeme) (l : Lexeme) (more : Tokens) (fault : Fault) → whole_text ≡ followed ts (Next l more) → Stands r ts → after_token r l ≡ Err fault
      → Refusal r.building ts (due_at r.next) l.token l.span (Err fault) → IsFirstFault whole_text fault
  refused_at r ts l more (Bad kind at) same h e place =
      subst (λ (n : ℕ). IsFirstFault whole_text (Bad kind n)) (sym place.0) (out_of_place ts l more kind same (stands_prefix r ts h) (misplaced r ts h l kind at e)
      (record { due = due_at r.next; is = due r ts h; kind = place.1 }))
  refused_at r ts l more (TooDeep at) same h e place =
      subst (λ (n : ℕ). IsFirstFault whole_text (TooDeep n)) (sym place.0) (too_deep ts l more same (stands_prefix r ts h) place.1 (no_text r ts l at h.ran e))

  ended_at : (r : Reading) (ts : List Lexeme) (at : ℕ) (fault : Fault) → whole_text ≡ followed ts (End at) → Stands r ts → finish r at ≡ Err fault → EndRefusal (due_at r.next) at (Err fault)
      → IsFirstFault whole_text fault
  ended_at r ts at (Bad kind n) same h e place = subst (λ (m : ℕ). IsFirstFault whole_text (Bad kind m)) (sym place.0) (at_end ts at kind same (stands_prefix r ts h) (λ fields f.
      ends_here r fields (fields_read f []).after_field at (Bad kind n) (fields_read f []).leads h.ran e) (record { due = due_at r.next; is = due r ts h; kind = place.1 }))
  ended_at r ts at (TooDeep n) same h e place = absurd place

  first_fault : (tokens : Tokens) (r : Reading) (ts : List Lexeme) (fault : Fault) → whole_text ≡ followed ts tokens → Stands r ts → read r tokens ≡ Err fault → IsFirstFault whole_text fault
  unfolding read
  first_fault (Next l more) r ts fault same h e = elim (after_token r l) as (λ o. after_token r l ≡ o → and_then o (λ n. read n more) ≡ Err fault → IsFirstFault whole_text fault) [
    | Ok n ↦ λ s d. first_fault more n (ts ++ l ∷ []) fault (same ∙ sym (followed_more ts l more)) (step_stands r n ts l h s) d
    | Err f ↦ λ s d.
        let here : f ≡ fault = cc in
        subst (λ (g : Fault). IsFirstFault whole_text g) here (refused_at r ts l more f same h s (subst (Refusal r.building ts (due_at r.next) l.token l.span) s (refusal r ts h l)))
  ] refl e
  first_fault (End at) r ts fault same h e = ended_at r ts at fault same h e (subst (EndRefusal (due_at r.next) at) e (end_refusal at r.building r.next))
  first_fault (Faulty f) r ts fault same h e =
      let here : f ≡ fault = cc in
      subst (λ (g : Fault). IsFirstFault whole_text g) here (in_itself ts same (stands_prefix r ts h))

with_place_err : (text : List ℕ) (o : Result Fields Fault) (error : TextError) → with_place text o ≡ Err error → (fault : Fault) × (o ≡ Err fault) × (error ≡ error_of text fault)
with_place_err text (Ok fields) error e = absurd (cc)
with_place_err text (Err fault) error e = let same : error_of text fault ≡ error = cc in (fault, refl, sym same)

-- The tokens that are read are those of the cut.
of_read : (text : List ℕ) (fault : Fault) → IsFirstFault (tokens_of text) fault → HasFirstFault text fault
of_read text fault f = record { tokens = tokens_of text; cut = read_is_cut text; first = f }

to_read : (text : List ℕ) (fault : Fault) → HasFirstFault text fault → IsFirstFault (tokens_of text) fault
to_read text fault h = subst (λ ts. IsFirstFault ts fault) (sym (cut_is_read h.cut)) h.first

read_first : (text : List ℕ) (fault : Fault) → read_text text ≡ Err fault → HasFirstFault text fault
unfolding read_text
read_first text fault e = of_read text fault (first_fault (tokens_of text) (tokens_of text) unread [] fault refl nothing_stands e)

pub refused_first : (text : List ℕ) (error : TextError) → fields_of_text text ≡ Err error → (fault : Fault) × (error ≡ error_of text fault) × HasFirstFault text fault
refused_first text error e = let p = with_place_err text (read_text text) error e in (p.0, p.2, read_first text p.0 p.1)

-- A prefix of a text of the form is read.
read_prefix : (ts rest : List Lexeme) (fields : Fields) (o : Result Reading Fault) → run unread ts ≡ o → and_then (and_then o (λ n. run n rest)) (λ m. finish m 0) ≡ Ok fields → (r : Reading) × Stands r ts
read_prefix ts rest fields (Ok r) e d = (r, run_stands ts unread r [] nothing_stands e)
read_prefix ts rest fields (Err f) e d = absurd (cc)

prefix_stands : (ts : List Lexeme) → IsTextPrefix ts → (r : Reading) × Stands r ts
prefix_stands ts p = read_prefix ts p.rest p.fields (run unread ts) refl
    (ap (λ (o : Result Reading Fault). and_then o (λ m. finish m 0)) (sym (run_append unread ts p.rest)) ∙ reads_form (ts ++ p.rest) p.fields p.form p.depth 0)

run_and_read : (r : Reading) (ts : List Lexeme) (tokens : Tokens) → read r (followed ts tokens) ≡ and_then (run r ts) (λ n. read n tokens)
unfolding read
run_and_read r [] tokens = refl
run_and_read r (t ∷ ts) tokens = elim (after_token r t) as (λ o. and_then o (λ n. read n (followed ts tokens)) ≡ and_then (and_then o (λ n. run n ts)) (λ n. read n tokens)) [
  | Ok n ↦ run_and_read n ts tokens
  | Err e ↦ refl
]

-- What is read of tokens, of which the first ones were.
read_behind : (r : Reading) (ts : List Lexeme) (whole_text tokens : Tokens) → whole_text ≡ followed ts tokens → Stands r ts → read unread whole_text ≡ read r tokens
read_behind r ts whole_text tokens same h = ap (read unread) same ∙ run_and_read unread ts tokens ∙ ap (λ (o : Result Reading Fault). and_then o (λ n. read n tokens)) h.ran

module _ (r : Reading) (ts : List Lexeme) (h : Stands r ts) (l : Lexeme) where
  is_misplaced : (its : BadKind) → (IsPrefix (ts ++ l ∷ []) → ⊥) → IsKindOf ts l.token its → (o : Result Reading Fault) → after_token r l ≡ o → Refusal r.building ts (due_at r.next) l.token l.span o
      → after_token r l ≡ Err (Bad its l.span.start)
  is_misplaced its never k (Ok n) e place = absurd (never (any_text_prefix (stands_prefix n (ts ++ l ∷ []) (step_stands r n ts l h e))))
  is_misplaced its never k (Err (Bad other at)) e place =
      e ∙ ap (λ (n : ℕ). Err (Bad other n)) place.0 ∙ ap (λ (other : BadKind). Err (Bad other l.span.start)) (same_kind r ts h l other its place.1 k)
  is_misplaced its never k (Err (TooDeep at)) e place = absurd (never place.1)

  is_too_deep : IsPrefix (ts ++ l ∷ []) → (IsTextPrefix (ts ++ l ∷ []) → ⊥) → (o : Result Reading Fault) → after_token r l ≡ o → Refusal r.building ts (due_at r.next) l.token l.span o
      → after_token r l ≡ Err (TooDeep l.span.start)
  is_too_deep some never (Ok n) e place = absurd (never (stands_prefix n (ts ++ l ∷ []) (step_stands r n ts l h e)))
  is_too_deep some never (Err (Bad other at)) e place = absurd (misplaced r ts h l other at e some)
  is_too_deep some never (Err (TooDeep at)) e place = e ∙ ap (λ (n : ℕ). Err (TooDeep n)) place.0

  stops : (more : Tokens) (fault : Fault) → after_token r l ≡ Err fault → read r (Next l more) ≡ Err fault
  unfolding read
  stops more fault e = ap (λ (o : Result Reading Fault). and_then o (λ n. read n more)) e

is_at_end : (r : Reading) (ts : List Lexeme) (h : Stands r ts) (end : ℕ) (its : BadKind) → ((fields : Fields) → IsFields ts fields → ⊥) → IsKindAtEnd ts its → (o : Result Fields Fault) → finish r end ≡ o
    → EndRefusal (due_at r.next) end o → finish r end ≡ Err (Bad its end)
is_at_end r ts h end its never k (Ok fields) e place = absurd (never fields (finish_form ts end fields r.building r.next h.prefix e))
is_at_end r ts h end its never k (Err (Bad other at)) e place = e ∙ ap (λ (n : ℕ). Err (Bad other n)) place.0 ∙ ap (λ (other : BadKind). Err (Bad other end)) (same_end r ts h other its place.1 k)
is_at_end r ts h end its never k (Err (TooDeep at)) e place = absurd place

-- The first fault is what is answered.
answered : (whole_text : Tokens) (fault : Fault) → IsFirstFault whole_text fault → read unread whole_text ≡ Err fault
unfolding read
answered whole_text fault (in_itself ts same p) = let h = prefix_stands ts p in read_behind h.0 ts whole_text (Faulty fault) same h.1
answered whole_text fault (out_of_place ts l rest its same p never k) =
    let h = prefix_stands ts p in
    read_behind h.0 ts whole_text (Next l rest) same h.1 ∙ stops h.0 ts h.1 l rest _ (is_misplaced h.0 ts h.1 l its never k (after_token h.0 l) refl (refusal h.0 ts h.1 l))
answered whole_text fault (too_deep ts l rest same p some never) =
    let h = prefix_stands ts p in
    read_behind h.0 ts whole_text (Next l rest) same h.1 ∙ stops h.0 ts h.1 l rest _ (is_too_deep h.0 ts h.1 l some never (after_token h.0 l) refl (refusal h.0 ts h.1 l))
answered whole_text fault (at_end ts end its same p never k) =
    let h = prefix_stands ts p in
    read_behind h.0 ts whole_text (End end) same h.1 ∙ is_at_end h.0 ts h.1 end its never k (finish h.0 end) refl (end_refusal end h.0.building h.0.next)

first_is_read : (text : List ℕ) (fault : Fault) → HasFirstFault text fault → read_text text ≡ Err fault
unfolding read_text
first_is_read text fault f = answered (tokens_of text) fault (to_read text fault f)

pub first_answered : (text : List ℕ) (fault : Fault) → HasFirstFault text fault → fields_of_text text ≡ Err (error_of text fault)
first_answered text fault f = ap (with_place text) (first_is_read text fault f)

-- One thing is due behind a prefix.
pub one_is_due : (ts : List Lexeme) → IsTextPrefix ts → (d : Due) × IsDue ts d × ((other : Due) → IsDue ts other → other ≡ d)
one_is_due ts p = let h = prefix_stands ts p in (due_at h.0.next, due h.0 ts h.1, one_due h.0 ts h.1)

-- A text has one tree or one first fault.
one_by : (text : List ℕ) (o : Result Fields Fault) → read_text text ≡ o → HasOneAnswer text
one_by text (Ok fields) e = one_tree fields (read_form text fields (ap (with_place text) e))
    (λ others f. let d : fields_of_text text ≡ Ok others = form_read text others f in let g : fields_of_text text ≡ Ok fields = ap (with_place text) e in cc)
    (λ fault f. let d : read_text text ≡ Err fault = first_is_read text fault f in cc)
one_by text (Err fault) e = one_fault fault (read_first text fault e)
    (λ other f. let d : read_text text ≡ Err other = first_is_read text other f in cc)
    (λ fields f. refused text (error_of text fault) (ap (with_place text) e) fields f)

pub one_answer : (text : List ℕ) → HasOneAnswer text
one_answer text = one_by text (read_text text) refl

-- What is answered is what the form has.
pub parsed : (text : List ℕ) (result : Result Fields TextError) → AnswersOr Memory (λ tree. tree) result (fields_of_text text) → IsParsed text result
parsed text (Ok fields) e = tree (read_form text fields e)
parsed text (Err error) (inl none_left) = subst (λ (o : TextError). IsParsed text (Err o)) (sym none_left) no_memory
parsed text (Err error) (inr e) = let p = refused_first text error e in subst (λ (o : TextError). IsParsed text (Err o)) (sym p.1) (first.refused p.2)
