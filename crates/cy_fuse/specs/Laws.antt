-- How a fusion and a buffer grow, and what a fetch finds.
use Rattle.std.specs.Prelude.{ℕ, ◌≡◌, ◌≢◌, ◌≤◌, ◌<◌, ◌+◌, ◌-◌, nat_lt, ◌||◌, if◌then◌else◌}
use Rattle.std.specs.Prelude.{List, [], ◌∷◌, ◌++◌, length, slice_get, Some, None}
use Rattle.cy_fuse.specs.declared.overflow.Overflow.{Overflow}
use Rattle.cy_fuse.specs.declared.overflow.Overflow.TheVariants.{Newest, Oldest}
use Rattle.cy_fuse.specs.Fusion.{Arrival, added, fused}
use Rattle.cy_fuse.specs.Fetch.{fetch}
use Rattle.cy_fuse.specs.Cache.{cache_of, filled, item_at}

-- One more arrival leaves the tuples that were made, and adds what it is joined to.
abbrev pub FusionsGrow : Type 0
FusionsGrow = (arrivals : List Arrival) (a : Arrival) (readers : ℕ) →
    fused (arrivals ++ a ∷ []) readers ≡ fused arrivals readers ++ added readers arrivals a

-- So there are never more tuples than arrivals.
abbrev pub FusionsAreFew : Type 0
FusionsAreFew =
    (arrivals : List Arrival) (readers : ℕ) → length (fused arrivals readers) ≤ length arrivals

-- A buffer in which one more item is filled is that of one more item,
abbrev pub CachesFill : Type 0 → Type 0
CachesFill X = (size : ℕ) (items : List X) (x : X) → 1 ≤ size →
    filled (cache_of size items) x ≡ cache_of size (items ++ x ∷ [])

-- and it has the items of all that were filled, each by its number, from the oldest that is kept.
abbrev pub CachesKeep : Type 0 → Type 0
CachesKeep X = (size number : ℕ) (items : List X) →
    item_at (cache_of size items) number
    ≡ (if nat_lt number (length items - size + 1) || nat_lt (length items) number then None
    else slice_get items (number - 1))

-- What was found is an item that was filled, and none from before the index: nothing is fetched
-- twice.
pub record FetchBounds (index tail number : ℕ) : Type 0 where
  pub from_index : index ≤ number
  pub from_one : 1 ≤ number
  pub to_tail : number ≤ tail

-- What a fetch finds, but for what stands in place of an item that isn't kept any more.
pub record FetchesFind : Type 0 where
  -- Nothing is found in an empty buffer and past the tail,
  pub empty : (index queue : ℕ) (o : Overflow) → fetch index 0 queue o ≡ None
  pub past : (index tail queue : ℕ) (o : Overflow) → tail < index → fetch index tail queue o ≡ None
  -- and something at any other index, so that items are left out only where a later one is found.
  pub some : (index tail queue : ℕ) (o : Overflow) → 1 ≤ tail → index ≤ tail
      → fetch index tail queue o ≢ None
  -- It is an item from the index on, and is kept.
  pub bounds : (index tail queue : ℕ) (o : Overflow) (number : ℕ)
      → fetch index tail queue o ≡ Some number → FetchBounds index tail number
  pub kept : (index tail queue : ℕ) (o : Overflow) (number : ℕ) → 1 ≤ queue
      → fetch index tail queue o ≡ Some number → tail < number + queue
  -- The first fetch finds the newest item, and a later one that of its index, where that is kept.
  pub first : (tail queue : ℕ) (o : Overflow) → 1 ≤ tail → fetch 0 tail queue o ≡ Some tail
  pub next : (index tail queue : ℕ) (o : Overflow) → 1 ≤ index → index ≤ tail
      → tail < index + queue → fetch index tail queue o ≡ Some index
  -- How many items are kept is nothing to it where all are.
  pub roomy : (index tail few many : ℕ) (o : Overflow) → tail ≤ few → tail ≤ many
      → fetch index tail few o ≡ fetch index tail many o

-- In place of an item that isn't kept any more it finds the newest, or the oldest that is kept.
pub record FetchesOverflow : Type 0 where
  pub newest : (index tail queue : ℕ) → 1 ≤ tail → index + queue ≤ tail
      → fetch index tail queue Newest ≡ Some tail
  pub oldest : (index tail queue : ℕ) → 1 ≤ index → 1 ≤ queue → index + queue ≤ tail
      → fetch index tail queue Oldest ≡ Some (tail - queue + 1)
