-- Where a file first differs from a text that is not the whole one yet.
use Rattle.std.specs.Prelude.{ℕ, ◌+◌, ◌≡◌, ◌==◌, if◌then◌else◌, List, [], ◌∷◌, Option, Some, None}
use Rattle.std.specs.FinMap.{get}
use Rattle.cy_store.specs.Files.{Files}

-- The first place of a text, counted from `at`, at which a file doesn't have the text's byte: it
-- ends there, or has another one. What the file has behind the text doesn't count.
abbrev pub unlike : (at : ℕ) → (file text : List ℕ) → Option ℕ
unlike at file [] = None
unlike at [] (b ∷ text) = Some at
unlike at (a ∷ file) (b ∷ text) = if a == b then unlike (at + 1) file text else Some at

-- Where the files are told and a name is there, its bytes have P.
abbrev pub Told : Option Files → List ℕ → (List ℕ → Type 0) → Type 0
Told files name P = (m : Files) (file : List ℕ) → files ≡ Some m → get m name ≡ Some file → P file
