-- What holds of a buffer's fields.
use Rattle.std.specs.Prelude.{ℕ, ◌≡◌, ◌≤◌, ◌<◌, ◌-◌, ◌^◌, min, length}
use Rattle.circular_buffer.specs.Buffer.{Buffer}

-- The ring holds as many items as were filled, up to its size; and a cursor's index always fits.
pub record IsCache {X : Type 0} (size tail : ℕ) (items : Buffer X) : Type 0 where
  pub some : 1 ≤ size
  pub sized : items.capacity ≡ size
  pub held : length items.items ≡ min size tail
  pub in_range : tail < 2 ^ 64 - 1
