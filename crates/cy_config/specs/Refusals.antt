-- Refusals in their order.
use Rattle.std.specs.Prelude.{ℕ, List, [], ◌∷◌, ◌++◌, Option, Some, None, if◌then◌else◌}
use Rattle.std.specs.List.{list_any}
use Rattle.std.specs.Str.{bytes_eq}
use Rattle.std.specs.Option.{option_or}

-- What the first of some tests that refuses answers.
abbrev pub first_of : {E : Type 0} → List (Option E) → Option E
first_of [] = None
first_of (test ∷ tests) = option_or test (first_of tests)

-- The first name that stands a second time, behind some names.
abbrev pub repeated_behind : List (List ℕ) → List (List ℕ) → Option (List ℕ)
repeated_behind before [] = None
repeated_behind before (name ∷ names) =
    if list_any (λ n. bytes_eq n name) before then Some name
    else repeated_behind (before ++ name ∷ []) names

abbrev pub first_repeated : List (List ℕ) → Option (List ℕ)
first_repeated names = repeated_behind [] names
