-- What a visitor answers over its arrivals.
use Rattle.std.specs.Prelude.{ℕ, ◌+◌, ◌-◌, List, [], ◌∷◌, ◌++◌, length, slice_get, Option, Some}
use Rattle.std.specs.Prelude.{None, option_map, option_and_then}
use Rattle.cy_msg.specs.declared.token.Tuple.{Tuple}
use Rattle.cy_msg.specs.declared.token.Token.{Token}
use Rattle.cy_fuse.specs.declared.overflow.Overflow.{Overflow}
use Rattle.cy_fuse.specs.Fusion.{Arrival, fused}
use Rattle.cy_fuse.specs.Fetch.{fetch}

-- A visitor: how many tuples it keeps, how many readers it has, where a fetch goes on whose tuple
-- isn't kept any more, for how many more arrivals it has room, and all that arrived.
pub record VisitorView : Type 0 where
  pub queue : ℕ
  pub roles : ℕ
  pub overflow : Overflow
  pub spare : ℕ
  pub arrivals : List Arrival

-- Before anything arrived.
abbrev pub prepared : (queue roles : ℕ) → Overflow → (spare : ℕ) → VisitorView
prepared queue roles overflow spare = record {
  queue = queue;
  roles = roles;
  overflow = overflow;
  spare = spare;
  arrivals = [];
}

-- After one more arrival.
abbrev pub arrived : VisitorView → ℕ → Token → VisitorView
arrived v role m = record v { spare = v.spare - 1; arrivals = v.arrivals ++ (role, m) ∷ [] }

-- The tuples that its arrivals make.
abbrev pub tuples_at : VisitorView → List Tuple
tuples_at v = fused v.arrivals v.roles

-- The position that a fetch at an index finds.
abbrev pub position_at : ℕ → VisitorView → Option ℕ
position_at index v = fetch index (length (tuples_at v)) v.queue v.overflow

-- What a fetch at an index answers: the tuple, its position, and how many tuples there are.
abbrev pub visited : ℕ → VisitorView → Option (Tuple × ℕ × ℕ)
visited index v =
    option_and_then
    (λ n. option_map (λ t. (t, n, length (tuples_at v))) (slice_get (tuples_at v) (n - 1)))
    (position_at index v)

-- Where the next fetch begins after a fetch.
abbrev pub index_after : ℕ → Option (Tuple × ℕ × ℕ) → ℕ
index_after index None = index
index_after index (Some found) = found.1 + 1
