-- Tokens that were read, by what may follow them.
use Rattle.std.proofs.Common.{ℕ, ◌≡◌, List, [], ◌∷◌, ◌++◌, Bool, true, false, refl, ap, subst, ◌∙◌, append_assoc}
use Rattle.cy_text.specs.Fields.{Fields, Held, And, Quote, Message}
use Rattle.cy_text.specs.Form.{Building, Reading, placed}
use Rattle.cy_text.specs.Form as form
use Rattle.cy_text.specs.Grammar.{on, end_of, start_of, IsSeparator, IsLabel, IsStrings, IsPlain, IsFields, field, separated, IsField, single, empty, list, IsItems, IsValue}
use Rattle.cy_text.specs.declared.token.Token.{Token}
use Rattle.cy_text.specs.declared.token.Token.TheVariants as token
use Rattle.cy_text.specs.declared.token.Lexeme.{Lexeme}
use Rattle.cy_text.specs.declared.tree.Span.{Span}
use Rattle.cy_text.specs.declared.expected.Frame.{Frame}
use Rattle.cy_text.specs.declared.expected.Place.{Place}
use Rattle.cy_text.specs.declared.expected.Place.TheVariants as place
use Rattle.cy_text.specs.declared.expected.Slot.{Slot}
use Rattle.cy_text.specs.declared.expected.Expected.{Expected}
use Rattle.cy_text.specs.declared.expected.Expected.TheVariants as expect
use Rattle.cy_text.proofs.FormRuns.{label_span}

-- Tokens that are fields of the innermost message, behind those of the messages around it: `Inside` says which.
module _ (Inside : Fields → List Lexeme → Type 0) where
  -- a field ends them, behind which a separator may stand
  pub record Ended (fields : Fields) (ts : List Lexeme) : Type 0 where
    pub now : Inside fields ts
    pub separate : (mark : Token) (s : Span) → IsSeparator mark → Inside fields (ts ++ on s mark ∷ [])

  -- items of a list end them
  pub record InList (colon : Bool) (name : List ℕ) (fields : Fields) (ts : List Lexeme) : Type 0 where
    pub prefix : List Lexeme
    pub items : List Lexeme
    pub before : Fields
    pub tokens : ts ≡ prefix ++ items
    pub are : IsItems colon name items before fields
    pub close : (others : List Lexeme) (after : Fields) (c : Span) → IsItems colon name others before after → Ended after (prefix ++ (others ++ on c token.ListClose ∷ []))

  -- the bracket of a list ends them
  pub record ListStart (colon : Bool) (name : List ℕ) (fields : Fields) (ts : List Lexeme) : Type 0 where
    pub close : (c : Span) → Ended fields (ts ++ on c token.ListClose ∷ [])
    pub items : (others : List Lexeme) (after : Fields) (c : Span) → IsItems colon name others fields after → Ended after (ts ++ (others ++ on c token.ListClose ∷ []))

  -- a value ends them
  abbrev pub Behind : Slot → Fields → List Lexeme → Type 0
  Behind slot fields ts = elim slot.place [
    | place.Field ↦ Ended fields ts
    | place.Item ↦ InList true slot.name fields ts
    | place.MessageItem ↦ InList false slot.name fields ts
  ]

  -- a value may follow
  abbrev pub Awaits : Bool → Slot → Fields → List Lexeme → Type 0
  Awaits colon slot fields ts = (vs : List Lexeme) (held : Held) → IsValue colon vs held
      → Behind slot (And fields slot.name (record { start = form.start_of slot.place slot.start (start_of vs); end = end_of 0 vs }) held) (ts ++ vs)

  -- a value or a list may follow
  pub record Named (colon : Bool) (slot : Slot) (fields : Fields) (ts : List Lexeme) : Type 0 where
    pub value : Awaits colon slot fields ts
    pub list : (o : Span) → ListStart colon slot.name fields (ts ++ on o token.ListOpen ∷ [])

  -- strings end them
  pub record InStrings (slot : Slot) (fields : Fields) (bytes : List ℕ) (end : ℕ) (ts : List Lexeme) : Type 0 where
    pub prefix : List Lexeme
    pub quotes : List Lexeme
    pub tokens : ts ≡ prefix ++ quotes
    pub are : IsStrings quotes bytes
    pub ends : end ≡ end_of 0 quotes
    pub value : (others : List Lexeme) (all : List ℕ) → IsStrings (quotes ++ others) all
        → Behind slot (And fields slot.name (record { start = slot.start; end = end_of 0 (quotes ++ others) }) (Quote all)) (prefix ++ (quotes ++ others))

  -- fields of a message in a frame end them
  pub record Within (frame : Frame) (fields : Fields) (ts : List Lexeme) : Type 0 where
    pub prefix : List Lexeme
    pub inner : List Lexeme
    pub tokens : ts ≡ prefix ++ inner
    pub are : IsFields inner fields
    pub close : (others : List Lexeme) (after : Fields) (c : Span) → IsFields others after
        → Behind frame.slot (And frame.fields frame.slot.name (record { start = frame.slot.start; end = c.end }) (Message after)) (prefix ++ (others ++ on c (token.Close frame.bracket) ∷ []))

-- Fields of the innermost message end the tokens.
abbrev pub Inside : List Frame → Fields → List Lexeme → Type 0
Inside [] fields ts = IsFields ts fields
Inside (frame ∷ frames) fields ts = Within (λ fs us. Inside frames fs us) frame fields ts

-- The place of a list's items.
abbrev pub item_place : Bool → Place
item_place true = place.Item
item_place false = place.MessageItem

-- The tokens stand before what is expected.
abbrev pub PrefixOf : Building → Expected → List Lexeme → Type 0
PrefixOf b (expect.Field false) ts = Inside b.frames b.fields ts
PrefixOf b (expect.Field true) ts = Ended (Inside b.frames) b.fields ts
PrefixOf b (expect.AfterName slot) ts =
    (slot.place ≡ place.Field) × Named (Inside b.frames) false slot b.fields ts × ((c : Span) → Named (Inside b.frames) true slot b.fields (ts ++ on c token.Colon ∷ []))
PrefixOf b (expect.AfterColon slot) ts = (slot.place ≡ place.Field) × Named (Inside b.frames) true slot b.fields ts
PrefixOf b (expect.FirstItem slot) ts = (colon : Bool) × (slot.place ≡ item_place colon) × ListStart (Inside b.frames) colon slot.name b.fields ts
PrefixOf b (expect.Item slot) ts = (colon : Bool) × (slot.place ≡ item_place colon) × Awaits (Inside b.frames) colon slot b.fields ts
PrefixOf b (expect.AfterItem slot) ts = (colon : Bool) × (slot.place ≡ item_place colon) × InList (Inside b.frames) colon slot.name b.fields ts
PrefixOf b (expect.Signed slot) ts = (kind : Token) (held : Held) (s : Span) → IsPlain kind true held
    → Behind (Inside b.frames) slot (And b.fields slot.name (record { start = slot.start; end = s.end }) held) (ts ++ on s kind ∷ [])
PrefixOf b (expect.Strings slot bytes end) ts = InStrings (Inside b.frames) slot b.fields bytes end ts

abbrev pub Prefix : Reading → List Lexeme → Type 0
Prefix r ts = PrefixOf r.building r.next ts

-- a value is placed
module _ (b : Building) (end : ℕ) (held : Held) (ts : List Lexeme) where
  behind_at : (name : List ℕ) (start : ℕ) (p : Place) → Behind (Inside b.frames) (record { name = name; start = start; place = p }) (And b.fields name (record { start = start; end = end }) held) ts
      → Prefix (placed b (record { name = name; start = start; place = p }) end held) ts
  unfolding placed
  behind_at name start place.Field h = h
  behind_at name start place.Item h = (true, refl, h)
  behind_at name start place.MessageItem h = (false, refl, h)

  pub behind_prefix : (slot : Slot) → Behind (Inside b.frames) slot (And b.fields slot.name (record { start = slot.start; end = end }) held) ts → Prefix (placed b slot end held) ts
  behind_prefix slot h = behind_at slot.name slot.start slot.place h

-- one more field
pub add_field : (frames : List Frame) (before after : Fields) (ts us : List Lexeme) → Inside frames before ts → IsField us before after → Ended (Inside frames) after (ts ++ us)
add_field [] before after ts us f g = record { now = field f g; separate = λ mark s m. rw append_assoc (separated f g m s) }
add_field (frame ∷ frames) before after ts us w g = record {
  now = record { prefix = w.prefix; inner = w.inner ++ us; tokens = ap (λ xs. xs ++ us) w.tokens ∙ append_assoc w.prefix w.inner us; are = field w.are g; close = w.close };
  separate = λ mark s m. record {
    prefix = w.prefix;
    inner = w.inner ++ (us ++ on s mark ∷ []);
    tokens = ap (λ xs. (xs ++ us) ++ on s mark ∷ []) w.tokens ∙ simp append_assoc;
    are = separated w.are g m s;
    close = w.close;
  };
}

-- a label behind fields
pub named : (frames : List Frame) (before : Fields) (ts : List Lexeme) {colon : Bool} {name : List ℕ} {label : List Lexeme} → Inside frames before ts → IsLabel colon name label
    → Named (Inside frames) colon (record { name = name; start = start_of label; place = place.Field }) before (ts ++ label)
named frames before ts {label = label} i l = record {
  value = λ vs held v. rw (append_assoc ts label vs, label_span l v) (add_field frames before _ ts (label ++ vs) i (single l v));
  list = λ o. record {
    close = λ c. subst (λ us. Ended (Inside frames) before us) (simp append_assoc) (add_field frames before before ts _ i (empty l o c));
    items = λ others after c f. subst (λ us. Ended (Inside frames) after us) (simp append_assoc) (add_field frames before after ts _ i (list l o c f));
  };
}
