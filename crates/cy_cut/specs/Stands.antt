-- Bytes that stand in a file, or in what is kept of it.
use Rattle.std.specs.Prelude.{◌≡◌, ℕ, ◌+◌, ◌≤◌, List, length, take, drop}

-- These bytes stand in the file at a place.
pub record Stands (file : List ℕ) (at : ℕ) (bytes : List ℕ) : Type 0 where
  pub inside : at + length bytes ≤ length file
  pub same : bytes ≡ take (length bytes) (drop at file)
