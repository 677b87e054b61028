-- The table of the places of channels in their order.
use Rattle.std.specs.Prelude.{ℕ, ◌≡◌, ◌<◌, ◌==◌, ◌^◌, true, List, Option, Some, length, slice_get}
use Rattle.std.specs.Prelude.{eqb}
use Rattle.std.specs.List.{list_any, position, IsDistinct}

-- A table has for each channel its place in an order, if it stands there. No channel stands twice
-- in the order, and each is one that the table has; it has no more than have a number.
pub record ArePlaces (order : List ℕ) (table : List (Option ℕ)) : Type 0 where
  pub places : (c : ℕ) → c < length table
      → slice_get table c ≡ Some (position (λ other. c == other) order)
  pub once : IsDistinct eqb order
  pub below : (c : ℕ) → list_any (λ other. c == other) order ≡ true → c < length table
  pub few : length table < 2 ^ 32
