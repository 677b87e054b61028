-- Channel names, as their list in the order of their numbers.
use Rattle.std.specs.Prelude.{ℕ, ◌≡◌, ◌++◌, ◌∷◌, ◌⊎◌, ◌↔◌, List, [], length, slice_get, Some}
use Rattle.std.specs.Prelude.{unwrap_or, Result, IfOk, IsOk, OnErr, IsErrOf}
use Rattle.std.specs.List.{Contains}
use Rattle.cy_msg.specs.declared.names.TheConstants.{MOST_NAMES}
use Rattle.cy_msg.specs.declared.error.NamesError.{NamesError}
use Rattle.cy_msg.specs.declared.error.NamesError.TheVariants as names_error

-- A name that has a number keeps it.
abbrev pub KeepsNumbers : List (List ℕ) → List (List ℕ) → Type 0
KeepsNumbers old new = (n : ℕ) (name : List ℕ) → slice_get old n ≡ Some name → slice_get new n
    ≡ Some name

-- The name of a channel, by its number.
abbrev pub channel_name : List (List ℕ) → ℕ → List ℕ
channel_name names channel = unwrap_or (slice_get names channel) []

-- A name that was kept already has the number that it had, and a new one the next. Full comes
-- exactly where the name is new and no more names are kept; an error changes nothing.
pub record AddAnswer (old new : List (List ℕ)) (name : List ℕ)
    (result : Result ℕ NamesError) : Type 0 where
  pub number : IfOk result (λ n. slice_get new n ≡ Some name)
  pub kept : KeepsNumbers old new
  pub grown : IfOk result
      (λ n. (new ≡ old) ⊎ ((n ≡ length old) × (new ≡ old ++ name ∷ [])))
  pub known : Contains old name → IsOk result × (new ≡ old)
  pub fresh : ¬ (Contains old name)
      → IfOk result (λ n. (n ≡ length old) × (new ≡ old ++ name ∷ []))
  pub full : IsErrOf result names_error.Full
      ↔ ((length old ≡ MOST_NAMES) × ¬ (Contains old name))
  pub err : OnErr result (new ≡ old)
