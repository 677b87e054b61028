-- Files by name.
use Rattle.std.specs.Prelude.{ℕ, List, [], Option, IfSome, IsSomeAnd, ◌≡◌, None, unwrap_or}
use Rattle.std.specs.Ordering.{nat_cmp}
use Rattle.std.specs.Cmp.Lexicographic.{slice_cmp}
use Rattle.std.specs.FinMap.{FinMap, get}

-- The bytes of each file, by its name.
abbrev pub Files : Type 0
Files = FinMap (slice_cmp nat_cmp) (List ℕ)

-- The bytes under a name, none where the name isn't there.
abbrev pub content : Files → List ℕ → List ℕ
content files name = unwrap_or (get files name) []

-- Where the map is told, the name is there and its bytes have P.
abbrev pub Holds : Option Files → List ℕ → (List ℕ → Type 0) → Type 0
Holds files name P = IfSome files (λ m. IsSomeAnd (get m name) P)

-- Where the map is told, the name isn't there.
abbrev pub Lacks : Option Files → List ℕ → Type 0
Lacks files name = IfSome files (λ m. get m name ≡ None)
