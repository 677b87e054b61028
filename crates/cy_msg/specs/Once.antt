-- Lists in which nothing stands twice.
use Rattle.std.specs.Prelude.{ℕ, ◌≡◌, List, slice_get, Some}

-- Equal entries stand at one index.
abbrev pub IsOnce : {A : Type 0} → List A → Type 0
IsOnce {A} xs = (m n : ℕ) (x : A) → slice_get xs m ≡ Some x → slice_get xs n ≡ Some x → m ≡ n
