-- Channels in the order in which they first come.
use Rattle.std.specs.Prelude.{ℕ, ◌≡◌, ◌<◌, ◌==◌, if◌then◌else◌, true, List, [], ◌∷◌, ◌++◌}
use Rattle.std.specs.List.{list_any}

-- A number behind others, unless it stands among them.
abbrev pub with_number : List ℕ → ℕ → List ℕ
with_number known number =
    if list_any (λ other. number == other) known then known else known ++ number ∷ []

-- The numbers of a list, each once, in the order in which they first stand there, behind those that
-- are known.
abbrev pub numbers_after : List ℕ → List ℕ → List ℕ
numbers_after known [] = known
numbers_after known (number ∷ rest) = numbers_after (with_number known number) rest

-- Some of the channels from 0 on, by their numbers, and how many channels there are.
pub record Order : Type 0 where
  pub numbers : List ℕ
  pub all : ℕ

-- Each channel stands there.
abbrev pub HasAll : Order → Type 0
HasAll o = (number : ℕ) → number < o.all → list_any (λ other. number == other) o.numbers ≡ true
