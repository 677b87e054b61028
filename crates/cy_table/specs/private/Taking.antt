-- What is taken out of a table.
use Rattle.std.specs.Prelude.{ℕ, ◌≡◌, ◌≤◌, [], vec_capacity}
use Rattle.cy_table.specs.declared.table.ends.Taken.{Taken}

-- Lists with room for so many components.
pub record HaveRoom (n : ℕ) (t : Taken) : Type 0 where
  pub routines_none : t.routines.items ≡ []
  pub visitors_none : t.visitors.items ≡ []
  pub spent_none : t.spent.items ≡ []
  pub routines_room : n ≤ vec_capacity t.routines
  pub visitors_room : n ≤ vec_capacity t.visitors
  pub spent_room : n ≤ vec_capacity t.spent
