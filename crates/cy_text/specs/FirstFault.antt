-- The first fault of a text, and what a call answers that reads a text.
use Rattle.std.specs.Prelude.{ℕ, ◌≡◌, List, [], ◌∷◌, ◌++◌, Result, Ok, Err}
use Rattle.cy_text.specs.Fields.{Fields}
use Rattle.cy_text.specs.Grammar.{followed, IsFields, IsPrefix, IsTextPrefix, IsTextOf}
use Rattle.cy_text.specs.Kinds.{IsKindOf, IsKindAtEnd}
use Rattle.cy_text.specs.Places.{error_of}
use Rattle.cy_text.specs.Cuts.{IsCut}
use Rattle.cy_text.specs.Tokens.{Tokens, Next, End, Faulty}
use Rattle.cy_text.specs.declared.token.Lexeme.{Lexeme}
use Rattle.cy_text.specs.declared.error.BadKind.{BadKind}
use Rattle.cy_text.specs.declared.error.TextError.{TextError}
use Rattle.cy_text.specs.declared.error.TextError.TheVariants.{Memory}
use Rattle.cy_text.specs.declared.fault.Fault.{Fault}
use Rattle.cy_text.specs.declared.fault.Fault.TheVariants.{Bad, TooDeep}

-- The first fault of a text, by its tokens: those before it are a prefix of a text of the form,
-- and
pub data IsFirstFault (tokens : Tokens) : Fault → Type 0 where
  -- the next one is faulty in itself,
  in_itself : {fault : Fault} (ts : List Lexeme) → tokens ≡ followed ts (Faulty fault)
      → IsTextPrefix ts → IsFirstFault tokens fault
  -- or with it they are a prefix of nothing, however deep messages may stand,
  out_of_place : (ts : List Lexeme) (l : Lexeme) (rest : Tokens) (kind : BadKind)
      → tokens ≡ followed ts (Next l rest) → IsTextPrefix ts → (IsPrefix (ts ++ l ∷ []) → ⊥)
      → IsKindOf ts l.token kind → IsFirstFault tokens (Bad kind l.span.start)
  -- or with it they are one alone of fields in which a message stands too deep,
  too_deep : (ts : List Lexeme) (l : Lexeme) (rest : Tokens) → tokens ≡ followed ts (Next l rest)
      → IsTextPrefix ts → IsPrefix (ts ++ l ∷ []) → (IsTextPrefix (ts ++ l ∷ []) → ⊥)
      → IsFirstFault tokens (TooDeep l.span.start)
  -- or the text ends, and they are no text of the form.
  at_end : (ts : List Lexeme) (end : ℕ) (kind : BadKind) → tokens ≡ followed ts (End end)
      → IsTextPrefix ts → ((fields : Fields) → IsFields ts fields → ⊥) → IsKindAtEnd ts kind
      → IsFirstFault tokens (Bad kind end)

-- The first fault of a text is that of the tokens that it is cut into.
pub record HasFirstFault (text : List ℕ) (fault : Fault) : Type 0 where
  pub tokens : Tokens
  pub cut : IsCut 0 text tokens
  pub first : IsFirstFault tokens fault

-- What is answered of a text: the fields that the form has it say, or the error of its first fault,
-- or want of memory.
pub data IsParsed (text : List ℕ) : Result Fields TextError → Type 0 where
  tree : {fields : Fields} → IsTextOf text fields → IsParsed text (Ok fields)
  refused : {fault : Fault} → HasFirstFault text fault
      → IsParsed text (Err (error_of text fault))
  no_memory : IsParsed text (Err Memory)

-- A text has one tree or one first fault, and never both.
pub data HasOneAnswer (text : List ℕ) : Type 0 where
  one_tree : (fields : Fields) → IsTextOf text fields
      → ((others : Fields) → IsTextOf text others → others ≡ fields)
      → ((fault : Fault) → HasFirstFault text fault → ⊥) → HasOneAnswer text
  one_fault : (fault : Fault) → HasFirstFault text fault
      → ((other : Fault) → HasFirstFault text other → other ≡ fault)
      → ((fields : Fields) → IsTextOf text fields → ⊥) → HasOneAnswer text
