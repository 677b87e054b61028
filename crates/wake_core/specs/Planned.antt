-- How many entries a run can come to have.
use Rattle.std.specs.Prelude.{ℕ, zero, suc, ◌+◌, List, length, map, sum, slice_index, Option, Some}
use Rattle.std.specs.Prelude.{None, slice_get}
use Rattle.wake_core.specs.Run.{Route, writes_from}

-- The channel that a component's first reader reads.
abbrev pub first_reader : Route → ℕ
first_reader x = slice_index x.readers 0

-- The channel whose messages trigger the component that writes this one; the channel itself where
-- no component writes it.
abbrev pub source_of : List Route → ℕ → ℕ
source_of routes channel = source_by (writes_from 0 routes channel)
  where
    source_at : Option Route → ℕ
    source_at None = channel
    source_at (Some x) = first_reader x

    source_by : Option ℕ → ℕ
    source_by None = channel
    source_by (Some c) = source_at (slice_get routes c)

-- The same, so many times over.
abbrev pub source_after : List Route → ℕ → ℕ → ℕ
source_after routes zero channel = channel
source_after routes (suc n) channel = source_after routes n (source_of routes channel)

-- The planned count of a channel: that of the channel which triggers the component that writes it,
-- and so on up to a channel that no component writes, whose count is the number of its played
-- messages.
unfoldable pub planned_count : List Route → List ℕ → ℕ → ℕ
planned_count routes counts channel = slice_index counts
    (source_after routes (length routes) channel)

abbrev pub counts_from : List Route → List ℕ → ℕ → ℕ → ℕ
counts_from routes counts first zero = 0
counts_from routes counts first (suc more) = planned_count routes counts first + counts_from routes
    counts (suc first) more

-- The planned entries: arrivals at each reader, calls of each component, and messages on each
-- channel.
unfoldable pub planned : List Route → List ℕ → ℕ
planned routes counts =
    sum (map (λ x. sum (map (planned_count routes counts) x.readers)) routes)
    + sum (map (λ x. planned_count routes counts (first_reader x)) routes)
    + counts_from routes counts 0 (length counts)
