-- The ranks by which the components of a context are sorted.
use Rattle.std.specs.Prelude.{ℕ, ◌≡◌, List}
use Rattle.std.specs.List.{All}
use Rattle.std.specs.declared.cmp.Reverse.{Reverse}
use Rattle.cy_sched.specs.Placing.{home_in}
use Rattle.cy_sched.specs.declared.home.Home.{Home}

-- Each rank has its component's priority.
abbrev pub HaveRanks : List Home → List (Reverse ℕ × ℕ) → Type 0
HaveRanks homes ranks = All (λ r. r.0.0 ≡ (home_in homes r.1).priority) ranks
