-- What a buffer keeps of all that was filled.
use Rattle.std.specs.Prelude.{ℕ, ◌+◌, ◌-◌, ◌<◌, ◌⊎◌, nat_lt, ◌||◌, if◌then◌else◌, List, [], ◌∷◌}
use Rattle.std.specs.Prelude.{◌++◌, length, slice_get, Option, Some, None, option_map}
use Rattle.std.specs.Prelude.{option_and_then, refl}
use Rattle.std.specs.Coded.{Coded, code_by, coded×, coded_list, coded_ℕ}
use Rattle.circular_buffer.specs.Buffer.{keep_last}
use Rattle.cy_fuse.specs.declared.overflow.Overflow.{Overflow}
use Rattle.cy_fuse.specs.Fetch.{fetch}

-- A buffer: how many items it keeps, how many were filled, which is the number of the last one, and
-- those that are kept.
pub record Cache (X : Type 0) : Type 0 where
  pub size : ℕ
  pub tail : ℕ
  pub kept : List X

module _ {X : Type 0} where
  abbrev pub cache_code : Coded X → Coded (Cache X)
  cache_code c = code_by (ℕ × (ℕ × List X)) (coded× coded_ℕ (coded× coded_ℕ (coded_list c)))
      (λ b. (b.size, (b.tail, b.kept)))
      (λ p. let rest = p.1 in record { size = p.0; tail = rest.0; kept = rest.1 }) (λ _. refl)

  -- A buffer of this size in which these items were filled: it keeps the last of them.
  abbrev pub cache_of : ℕ → List X → Cache X
  cache_of size items = record { size = size; tail = length items; kept = keep_last size items }

  -- The same buffer, with one more item filled.
  abbrev pub filled : Cache X → X → Cache X
  filled b x = record b { tail = b.tail + 1; kept = keep_last b.size (b.kept ++ x ∷ []) }

  -- The number of the oldest item that is kept, where items are numbered from 1. Of an empty buffer
  -- it is 1.
  abbrev pub oldest_of : Cache X → ℕ
  oldest_of b = b.tail - b.size + 1

  -- No item of this number is kept.
  abbrev pub IsOutside : Cache X → ℕ → Type 0
  IsOutside b number = (number < oldest_of b) ⊎ (b.tail < number)

  -- The item of a number, where it is kept.
  abbrev pub item_at : Cache X → ℕ → Option X
  item_at b number =
      if nat_lt number (oldest_of b) || nat_lt b.tail number then None
      else slice_get b.kept (number - oldest_of b)

  -- The item that a fetch at an index finds, with its number.
  abbrev pub fetched : ℕ → Cache X → Overflow → Option (X × ℕ)
  fetched index b overflow =
      option_and_then (λ n. option_map (λ x. (x, n)) (item_at b n))
      (fetch index b.tail b.size overflow)

-- Where the next fetch begins after a fetch: behind what was found, and else where this one began.
abbrev pub next_index : {X : Type 0} → ℕ → Option (X × ℕ) → ℕ
next_index index None = index
next_index index (Some found) = found.1 + 1
