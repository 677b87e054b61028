-- How often names came, as a list of them says.
use Rattle.std.specs.Prelude.{ℕ, ◌+◌, ◌≡◌, List, [], ◌∷◌, if◌then◌else◌}
use Rattle.std.specs.Str.{bytes_eq}
use Rattle.cy_config.specs.declared.tally.Met.{Met}

-- How often a name came.
abbrev pub times_of : List Met → List ℕ → ℕ
times_of [] name = 0
times_of (m ∷ rest) name = if bytes_eq m.name.now name then m.times else times_of rest name

-- A name came once more, and no other one did.
abbrev pub Counts : List Met → List Met → List ℕ → Type 0
Counts old new name =
    (other : List ℕ)
    → times_of new other ≡ times_of old other + (if bytes_eq name other then 1 else 0)
