-- The fetch rule of a buffer that keeps the last items.
use Rattle.std.specs.Prelude.{ℕ, ◌+◌, ◌-◌, ◌==◌, nat_lt, nat_le, ◌||◌, if◌then◌else◌}
use Rattle.std.specs.Prelude.{Option, Some, None}
use Rattle.cy_fuse.specs.declared.overflow.Overflow.{Overflow}
use Rattle.cy_fuse.specs.declared.overflow.Overflow.TheVariants.{Newest, Oldest}

-- Where a fetch goes on whose item isn't kept any more, in a buffer that keeps `queue` items, of
-- which the last one has the number `tail`: at that one, or at the oldest, which stands `queue - 1`
-- before it.
abbrev pub overflows_to : Overflow → (tail queue : ℕ) → ℕ
overflows_to Newest tail queue = tail
overflows_to Oldest tail queue = tail - (queue - 1)

-- The number of the item that a fetch at an index finds. Nothing is found in an empty buffer and
-- past the tail, and at index 0 it is the tail. Else it is the item of the index, where that is
-- kept, and where it isn't any more the fetch goes on as the reader asks.
unfoldable pub fetch : (index tail queue : ℕ) → Overflow → Option ℕ
fetch index tail queue overflow =
    if tail == 0 || nat_lt tail index then None
    else (if index == 0 then Some tail
    else (if nat_le (index + queue) tail then Some (overflows_to overflow tail queue)
    else Some index))
