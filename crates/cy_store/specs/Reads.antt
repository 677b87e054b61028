-- What reading files, one after another, comes to. It is a function of the files alone.
use Rattle.std.specs.Prelude.{ℕ, List, Option, Some, None, Result, Ok, Err}
use Rattle.std.specs.FinMap.{get}
use Rattle.cy_store.specs.Files.{Files}

-- A value, where each file was there and was accepted; or the first thing in the way: what is wrong
-- with a file, or the name of one that isn't there.
pub data Reads (E A : Type 0) : Type 0 where
  Accepts : A → Reads E A
  Refuses : E → Reads E A
  Absent : (name : List ℕ) → Reads E A

-- One reading after another: the first thing in the way stands.
infixl 10 ◌>>=◌
abbrev pub ◌>>=◌ : {E A B : Type 0} → Reads E A → (A → Reads E B) → Reads E B
(Accepts x) >>= next = next x
(Refuses e) >>= next = Refuses e
(Absent name) >>= next = Absent name

-- What was judged comes to the same with no further file.
abbrev pub judged : {E A : Type 0} → Result A E → Reads E A
judged (Ok x) = Accepts x
judged (Err e) = Refuses e

-- What a file comes to, by what its bytes are judged to be.
abbrev pub file_by : {E A : Type 0} → List ℕ → (List ℕ → Result A E) → Option (List ℕ) → Reads E A
file_by name judge None = Absent name
file_by name judge (Some bytes) = judged (judge bytes)

abbrev pub file_in : {E A : Type 0} → List ℕ → (List ℕ → Result A E) → Files → Reads E A
file_in name judge files = file_by name judge (get files name)
