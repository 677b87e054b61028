-- How far sums of values can be from 0.
use Rattle.std.specs.Prelude.{ℕ, ◌*◌, ◌^◌, ℤ, pos, neg_ℤ, ◌≤ℤ◌}

-- A sum of so many values is at most so far from 0, since each is a signed number of 64 bits.
pub record IsNear (n : ℕ) (sum : ℤ) : Type 0 where
  pub low : neg_ℤ (pos (n * 2 ^ 63)) ≤ℤ sum
  pub high : sum ≤ℤ pos (n * 2 ^ 63)
