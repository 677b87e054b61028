-- What holds of a visitor's fields.
use Rattle.std.specs.Prelude.{ℕ, ◌+◌, ◌≡◌, ◌≤◌, ◌<◌, ◌^◌, List, length, map, slice_index_or}
use Rattle.std.specs.Prelude.{Option, None}
use Rattle.cy_msg.specs.declared.token.Token.{Token}
use Rattle.cy_msg.specs.declared.token.Tuple.{Tuple}
use Rattle.cy_fuse.specs.Fusion.{Arrival, fused, latest}
use Rattle.cy_fuse.specs.Cache.{Cache, cache_of}

-- The reader of each arrival is kept, the last message of each reader but the first, and the last
-- tuples that the arrivals make; there is room for the spare arrivals.
pub record IsVisitor (roles spare room : ℕ) (readers : List ℕ) (arrivals : List Arrival)
    (last : List (Option Token)) (tuples : Cache Tuple) : Type 0 where
  pub some : 1 ≤ tuples.size
  pub some_roles : 1 ≤ roles
  pub few_roles : roles ≤ 4
  pub told : readers ≡ map (λ (a : Arrival). a.0) arrivals
  pub kept : tuples ≡ cache_of tuples.size (fused arrivals roles)
  pub four : length last ≡ 4
  pub joins : (role : ℕ) → 1 ≤ role → role < 4
      → slice_index_or last role None ≡ latest role arrivals
  pub few : length arrivals + spare < 2 ^ 32
  pub fits : length arrivals + spare ≤ room
