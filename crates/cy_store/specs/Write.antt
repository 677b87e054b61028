-- Writes: what they make of the files, and what stands where one of them failed.
use Rattle.std.specs.Prelude.{ℕ, ◌≡◌, ◌≤◌, ◌+◌, max, List, [], ◌∷◌, ◌++◌, length, take, drop}
use Rattle.std.specs.Prelude.{Option, None, MatchOption, IsSomeAnd}
use Rattle.std.specs.FinMap.{get, insert}
use Rattle.cy_store.specs.Files.{Files, content}

-- A file made, or emptied; or bytes put into a file at a place.
pub data Write : Type 0 where
  Create : (name : List ℕ) → Write
  Put : (name : List ℕ) (at : ℕ) (bytes : List ℕ) → Write

abbrev pub name_of : Write → List ℕ
name_of (Create name) = name
name_of (Put name at bytes) = name

-- A file's bytes after these were put over them at a place.
abbrev pub written_at : List ℕ → ℕ → List ℕ → List ℕ
written_at before at bytes = take at before ++ bytes ++ drop (at + length bytes) before

-- The files after a write.
abbrev pub after_write : Write → Files → Files
after_write (Create name) m = insert m name []
after_write (Put name at bytes) m = insert m name (written_at (content m name) at bytes)

-- The files after writes, one after another.
abbrev pub after_writes : List Write → Files → Files
after_writes [] m = m
after_writes (w ∷ writes) m = after_writes writes (after_write w m)

-- A put of n bytes that failed: nothing is known of these n bytes, nor which of those that were to
-- come behind the file's end it has now; all other bytes stay.
pub record IsTorn (at n : ℕ) (before after : List ℕ) : Type 0 where
  pub front : take at after ≡ take at before
  pub back : drop (at + n) after ≡ drop (at + n) before
  pub no_shorter : length before ≤ length after
  pub no_longer : length after ≤ max (length before) (at + n)

-- What a write that failed may leave: of a creation nothing, of a put a torn file. A name that
-- isn't there stays so.
abbrev pub Leaves : Write → Files → Files → Type 0
Leaves (Create name) m m' = m' ≡ m
Leaves (Put name at bytes) m m' = MatchOption (get m name) (m' ≡ m) (λ before.
    (after : List ℕ) × IsTorn at (length bytes) before after × (m' ≡ insert m name after))

-- The same of a map that may not be told, and then stays untold.
abbrev pub LeavesIn : Write → Option Files → Option Files → Type 0
LeavesIn w old new = MatchOption old (new ≡ None) (λ m. IsSomeAnd new (Leaves w m))
