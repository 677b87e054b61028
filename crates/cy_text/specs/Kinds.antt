-- What is due behind tokens that are a prefix of a text of the form, by the tokens that may follow
-- them, and the kind of the fault of another token, or of the end of the text, that comes instead.
use Rattle.std.specs.Prelude.{ℕ, ◌≡◌, List, [], ◌∷◌, ◌++◌}
use Rattle.cy_text.specs.Grammar.{on, IsPrefix}
use Rattle.cy_text.specs.declared.token.Bracket.{Bracket}
use Rattle.cy_text.specs.declared.token.Token.{Token}
use Rattle.cy_text.specs.declared.token.Token.TheVariants as token
use Rattle.cy_text.specs.declared.token.Lexeme.{Lexeme}
use Rattle.cy_text.specs.declared.tree.Span.{Span}
use Rattle.cy_text.specs.declared.error.BadKind.{BadKind}
use Rattle.cy_text.specs.declared.error.BadKind.TheVariants as kind

-- A field's name may follow: a word with a colon behind it.
abbrev pub NameMayFollow : List Lexeme → Type 0
NameMayFollow ts = (name : List ℕ) × (s : Span) × (c : Span) × IsPrefix (ts
    ++ on s (token.Word name) ∷ on c token.Colon ∷ [])

-- A number may follow.
abbrev pub NumberMayFollow : List Lexeme → Type 0
NumberMayFollow ts = (size : ℕ) × (s : Span) × IsPrefix (ts ++ on s (token.Whole size) ∷ [])

-- A message may follow.
abbrev pub MessageMayFollow : List Lexeme → Type 0
MessageMayFollow ts = (mark : Bracket) × (s : Span) × IsPrefix (ts ++ on s (token.Open mark) ∷ [])

-- A comma may follow.
abbrev pub CommaMayFollow : List Lexeme → Type 0
CommaMayFollow ts = (s : Span) × IsPrefix (ts ++ on s token.Comma ∷ [])

-- What is due at a place of a text.
pub data Due : Type 0 where
  -- a field's name,
  a_name : Due
  -- a value that may be a number,
  a_value : Due
  -- a message alone,
  a_message : Due
  -- or what stands behind an item of a list.
  a_list_mark : Due

-- It is told by what may follow.
pub data IsDue (ts : List Lexeme) : Due → Type 0 where
  is_name : NameMayFollow ts → IsDue ts a_name
  -- behind a colon or a sign, or where an item of a list behind a colon may stand
  is_value : NumberMayFollow ts → IsDue ts a_value
  -- behind a name without a colon, or where an item of a list behind such a name may stand
  is_message : MessageMayFollow ts → (NumberMayFollow ts → ⊥) → IsDue ts a_message
  -- a comma stands behind a field as well, but there a name may stand, too
  is_list_mark : CommaMayFollow ts → (NameMayFollow ts → ⊥) → IsDue ts a_list_mark

-- The kind of a token that may not stand where something is due.
abbrev pub kind_of : Due → Token → BadKind
kind_of a_name token.ListOpen = kind.Extension
kind_of a_name (token.Close mark) = kind.Close
kind_of a_name token.ListClose = kind.Close
kind_of a_name token.Comma = kind.Close
kind_of a_name token.Semicolon = kind.Close
kind_of a_name wrong = kind.Name
kind_of a_value wrong = kind.Value
kind_of a_message token.Minus = kind.Colon
kind_of a_message (token.Whole size) = kind.Colon
kind_of a_message (token.Literal text) = kind.Colon
kind_of a_message (token.Word text) = kind.Colon
kind_of a_message (token.Quote bytes) = kind.Colon
kind_of a_message wrong = kind.Value
kind_of a_list_mark wrong = kind.Close

-- The kind of the end of a text where something is due. Where that is a name, a message is open.
abbrev pub kind_at_end : Due → BadKind
kind_at_end a_name = kind.Close
kind_at_end a_value = kind.Value
kind_at_end a_message = kind.Value
kind_at_end a_list_mark = kind.Close

-- The kind of a wrong token behind others.
pub record IsKindOf (ts : List Lexeme) (wrong : Token) (its : BadKind) : Type 0 where
  pub due : Due
  pub is : IsDue ts due
  pub kind : its ≡ kind_of due wrong

-- The kind of the end of a text behind tokens that it may not stand behind.
pub record IsKindAtEnd (ts : List Lexeme) (its : BadKind) : Type 0 where
  pub due : Due
  pub is : IsDue ts due
  pub kind : its ≡ kind_at_end due
